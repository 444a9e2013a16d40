use Rattle.g_laws_power.proofs.StepLemmas.{steps_keep_safe}
use Rattle.g_laws_power.proofs.StepStateLemmas.{stopped_steps_survive}
use Rattle.g_laws_power.proofs.step_losses.Goals as goal

pub returns-clause-safe : goal.returns-clause-safe
returns-clause-safe c = steps_keep_safe

pub returns-clause-stopped : goal.returns-clause-stopped
returns-clause-stopped c = stopped_steps_survive
