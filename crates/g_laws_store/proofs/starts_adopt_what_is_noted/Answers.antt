use Rattle.g_laws_store.proofs.StandLemmas.{owns_stay}
use Rattle.g_laws_store.proofs.starts_adopt_what_is_noted.Goals as goal

pub returns : goal.returns
returns c = owns_stay
