use Rattle.g_laws_store.proofs.PlaceLemmas as lemmas
use Rattle.g_laws_store.proofs.places_go_by_change.Goals as goal

pub returns-clause-places : goal.returns-clause-places
returns-clause-places c = lemmas.places_go_by_change

pub returns-clause-taken : goal.returns-clause-taken
returns-clause-taken c = lemmas.taken_have_copies
