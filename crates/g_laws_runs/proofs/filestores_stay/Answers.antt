use Rattle.g_laws_runs.proofs.FilestoreLemmas.{devices_keep, filestores_stay}
use Rattle.g_laws_runs.proofs.filestores_stay.Goals as goal

pub returns-clause-states : goal.returns-clause-states
returns-clause-states g c tariff rule = filestores_stay g.F.Fn tariff g.U.Fn rule

pub returns-clause-devices : goal.returns-clause-devices
returns-clause-devices g c tariff rule = devices_keep g.F.Fn tariff g.U.Fn rule
