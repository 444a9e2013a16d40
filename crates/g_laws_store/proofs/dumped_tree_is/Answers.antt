use Rattle.g_laws_store.proofs.TreeLemmas as lemmas
use Rattle.g_laws_store.proofs.dumped_tree_is.Goals as goal

pub returns : goal.returns
returns c = record { tree = lemmas.dumped_tree_is }
