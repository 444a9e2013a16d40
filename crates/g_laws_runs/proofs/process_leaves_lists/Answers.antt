use Rattle.g_laws_runs.proofs.ReelLemmas.{process_leaves}
use Rattle.g_laws_runs.proofs.process_leaves_lists.Goals as goal

pub returns : goal.returns
returns g c tariff rule = process_leaves g.F.Fn tariff g.U.Fn rule c.process_keeps_all.ensures
