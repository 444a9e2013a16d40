use Rattle.g_laws_progress.proofs.GoesLemmas.{runs_go_on}
use Rattle.g_laws_progress.proofs.runs_go_on.Goals as goal

pub returns : goal.returns
returns g c tariff rule = runs_go_on g.F.Fn tariff g.U.Fn rule
