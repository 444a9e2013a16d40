use Rattle.g_laws_losses.proofs.AnsweredLemmas.{answers_are_left}
use Rattle.g_laws_losses.proofs.answers_are_left.Goals as goal

pub returns : goal.returns
returns g c = λ tariff rule. answers_are_left g.F.Fn tariff g.U.Fn rule (c.jobs_run_on_one_tree.ensures tariff rule) (c.down_answers_nothing.ensures tariff rule) (c.next_run_begins.ensures tariff rule) c.devices_have_one_state.ensures.one
