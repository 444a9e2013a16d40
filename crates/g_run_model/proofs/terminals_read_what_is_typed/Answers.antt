use Rattle.g_run_model.proofs.ReadLemmas.{terminals_read}
use Rattle.g_run_model.proofs.terminals_read_what_is_typed.Goals as goal

pub returns : goal.returns
returns g c tariff rule = terminals_read g.F.Fn tariff g.U.Fn rule c.step_is_plain.ensures.answers
