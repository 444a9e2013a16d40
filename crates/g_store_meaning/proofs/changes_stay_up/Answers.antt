use Rattle.g_store_meaning.proofs.StayLemmas.{stays_up}
use Rattle.g_store_meaning.proofs.changes_stay_up.Goals as goal

pub returns : goal.returns
returns c = record { up = stays_up }
