use Rattle.g_store_meaning.proofs.OneLemmas.{devices_are_one}
use Rattle.g_store_meaning.proofs.one_state.Goals as goal

pub returns : goal.returns
returns c = record { devices = devices_are_one }
