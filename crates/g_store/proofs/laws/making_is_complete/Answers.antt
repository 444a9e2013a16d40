use Rattle.g_store.proofs.CompleteLemmas.{making_complete}
use Rattle.g_store.proofs.laws.making_is_complete.Goals as goal

pub returns : goal.returns
returns c = making_complete
