use Rattle.g_laws_store.proofs.UserLemmas as lemmas
use Rattle.g_laws_store.proofs.dumped_texts_stay.Goals as goal

pub returns : goal.returns
returns c = record { texts = lemmas.dumped_texts_stay }
