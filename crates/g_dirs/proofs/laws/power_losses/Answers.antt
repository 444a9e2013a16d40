use Rattle.g_dirs.proofs.Surviving.{directory_survives, live_is_safe, quiet_writes_stay_durable, safe_stays}
use Rattle.g_dirs.proofs.laws.power_losses.Goals as goal

pub returns-clause-survives : goal.returns-clause-survives
returns-clause-survives c = directory_survives

pub returns-clause-quiet : goal.returns-clause-quiet
returns-clause-quiet c = quiet_writes_stay_durable

pub returns-clause-safe : goal.returns-clause-safe
returns-clause-safe c = live_is_safe

pub returns-clause-stays : goal.returns-clause-stays
returns-clause-stays c = safe_stays
