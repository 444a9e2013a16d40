use Rattle.g_store.proofs.ProcessCompleteLemmas.{process_complete}
use Rattle.g_store.proofs.laws.process_is_complete.Goals as goal

pub returns : goal.returns
returns c = process_complete
