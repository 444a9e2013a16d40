use Rattle.g_program.proofs.DemoLemmas.{of_demo}
use Rattle.g_program.proofs.answer.run.Goals as goal

pub returns-clause-demo : goal.returns-clause-demo
returns-clause-demo g c = λ demo is asks. of_demo _ _ _ _ _ demo _ _ (c.run_by_rules-finish.ensures.demo demo is asks).1
