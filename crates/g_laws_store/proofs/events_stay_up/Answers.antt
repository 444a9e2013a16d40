use Rattle.g_laws_store.proofs.ClosingLemmas.{closing_stays}
use Rattle.g_laws_store.proofs.OpeningLemmas.{opening_stays}
use Rattle.g_laws_store.proofs.events_stay_up.Goals as goal

pub returns-clause-opening : goal.returns-clause-opening
returns-clause-opening c = opening_stays

pub returns-clause-closing : goal.returns-clause-closing
returns-clause-closing c = closing_stays
