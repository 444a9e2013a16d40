use Rattle.g_laws_power.proofs.RefusalLemmas.{refusals_survive}
use Rattle.g_laws_power.proofs.refusal_losses.Goals as goal

pub returns : goal.returns
returns c = refusals_survive
