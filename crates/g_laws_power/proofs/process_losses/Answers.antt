use Rattle.g_laws_power.proofs.ProcessStateLemmas.{stopped_process_survives}
use Rattle.g_laws_power.proofs.process_losses.Goals as goal

pub returns : goal.returns
returns c = stopped_process_survives
