use Rattle.g_laws_runs.proofs.ReelLemmas.{completed_stay}
use Rattle.g_laws_runs.proofs.completed_dumps_stay.Goals as goal

pub returns : goal.returns
returns g c tariff rule = completed_stay g.F.Fn tariff g.U.Fn rule
