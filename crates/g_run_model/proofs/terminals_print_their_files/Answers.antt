use Rattle.g_run_model.proofs.PutLemmas.{terminals_print}
use Rattle.g_run_model.proofs.terminals_print_their_files.Goals as goal

pub returns : goal.returns
returns g c tariff rule = terminals_print g.F.Fn tariff g.U.Fn rule
