use Rattle.g_laws_runs.proofs.LostLemmas.{nothing_is_lost}
use Rattle.g_laws_runs.proofs.nothing_is_lost.Goals as goal

pub returns : goal.returns
returns g c tariff rule = nothing_is_lost g.F.Fn tariff g.U.Fn rule
