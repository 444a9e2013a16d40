use Rattle.g_laws_losses.proofs.AnsweredLemmas.{answered_calls_survive}
use Rattle.g_laws_losses.proofs.answered_calls_survive.Goals as goal

pub returns : goal.returns
returns g c = λ tariff rule. answered_calls_survive g.F.Fn tariff g.U.Fn rule (c.jobs_run_on_one_tree.ensures tariff rule) (c.down_answers_nothing.ensures tariff rule)
