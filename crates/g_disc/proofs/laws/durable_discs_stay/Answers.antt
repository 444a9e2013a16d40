use Rattle.g_disc.proofs.DurableLemmas.{all_durable_is_unchanged}
use Rattle.g_disc.proofs.laws.durable_discs_stay.Goals as goal

pub returns : goal.returns
returns c = all_durable_is_unchanged
