use Rattle.g_program.proofs.DemoLemmas.{check_isnt_demo}
use Rattle.g_program.proofs.WordLemmas.{check_not_run}
use Rattle.g_program.proofs.answer.check_or_run.Goals as goal

-- the word of a check isn't a run's
pub returns-in-Some-clause-unknown : goal.returns-in-Some-clause-unknown
returns-in-Some-clause-unknown c = λ isnt asks. absurd (isnt c.in-Some.ensures)

pub returns-in-Some-clause-known : goal.returns-in-Some-clause-known
returns-in-Some-clause-known c = λ is. absurd (check_not_run c.args.words.now c.in-Some.ensures is)

pub returns-in-Some-clause-demo : goal.returns-in-Some-clause-demo
returns-in-Some-clause-demo c = λ demo is asks. absurd (check_isnt_demo c.args.words.now demo c.in-Some.ensures asks)

pub returns-in-None-clause-check : goal.returns-in-None-clause-check
returns-in-None-clause-check c = λ is. absurd (c.in-None.ensures is)
