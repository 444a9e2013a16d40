use Rattle.g_program.proofs.DemoLemmas.{session_isnt_demo}
use Rattle.g_program.proofs.WordLemmas.{not_check, not_run}
use Rattle.g_program.proofs.answer.answer.Goals as goal

-- the words of a session are neither a run's nor a check's
pub returns-in-Some-clause-unknown : goal.returns-in-Some-clause-unknown
returns-in-Some-clause-unknown c = λ isnt no_check asks. absurd (isnt c.in-Some.ensures)

pub returns-in-Some-clause-known : goal.returns-in-Some-clause-known
returns-in-Some-clause-known c = λ is. absurd (not_run c.args.words.now c.in-Some.ensures is)

pub returns-in-Some-clause-check : goal.returns-in-Some-clause-check
returns-in-Some-clause-check c = λ is. absurd (not_check c.args.words.now c.in-Some.ensures is)

pub returns-in-Some-clause-demo : goal.returns-in-Some-clause-demo
returns-in-Some-clause-demo c = λ demo is asks. absurd (session_isnt_demo c.args.words.now demo c.in-Some.ensures asks)

pub returns-in-None-clause-console : goal.returns-in-None-clause-console
returns-in-None-clause-console c = λ is. absurd (c.in-None.ensures is)
