use Rattle.g_laws_runs.proofs.DumpLemmas.{dumps_stay}
use Rattle.g_laws_runs.proofs.open_dumps_stay.Goals as goal

pub returns : goal.returns
returns g c tariff rule = dumps_stay g.F.Fn tariff g.U.Fn rule
