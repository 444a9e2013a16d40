use Rattle.g_laws_store.proofs.CommitLemmas as lemmas
use Rattle.g_laws_store.proofs.commits_are_told.Goals as goal

pub returns : goal.returns
returns c = lemmas.commits_are_told
