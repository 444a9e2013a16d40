use Rattle.g_demo.specs.declared.words.Asked.TheVariants.{Demo, Run}
use Rattle.g_program.proofs.DemoLemmas.{run_isnt_demo}
use Rattle.g_program.proofs.answer.run_or_demo.Goals as goal

-- words that ask for nothing aren't the word `run`
pub returns-in-None-clause-known : goal.returns-in-None-clause-known
returns-in-None-clause-known c = λ is. let no : ⊥ = c.in-None.ensures Run tt is in absurd no

-- nor are they a demonstration's
pub returns-in-None-clause-demo : goal.returns-in-None-clause-demo
returns-in-None-clause-demo c = λ demo is asks. let no : ⊥ = c.in-None.ensures (Demo demo) is asks in absurd no
