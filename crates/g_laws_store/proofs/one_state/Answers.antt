use Rattle.g_laws_store.proofs.UpOneLemmas.{store_is_one}
use Rattle.g_laws_store.proofs.one_state.Goals as goal

pub returns : goal.returns
returns c = record { store = store_is_one }
