use Rattle.g_run_model.proofs.DumpLemmas.{dumps_end}
use Rattle.g_run_model.proofs.dumps_come_to_an_end.Goals as goal

pub returns : goal.returns
returns g c tariff rule = dumps_end g.F.Fn tariff g.U.Fn rule
