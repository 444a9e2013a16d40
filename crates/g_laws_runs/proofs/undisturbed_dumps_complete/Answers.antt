use Rattle.g_laws_runs.proofs.CompleteLemmas.{dumps_complete, dumps_go_on}
use Rattle.g_laws_runs.proofs.undisturbed_dumps_complete.Goals as goal

pub returns-clause-going : goal.returns-clause-going
returns-clause-going g c tariff rule = dumps_go_on g.F.Fn tariff g.U.Fn rule

pub returns-clause-needs : goal.returns-clause-needs
returns-clause-needs g c tariff rule = dumps_complete g.F.Fn tariff g.U.Fn rule
