-- A device is armed, and nothing changes in what the store means.
use Rattle.g_store_model.specs.State.{State}
use Rattle.g_store_meaning.specs.Answers.{Belongs, Told}
use Rattle.g_store_meaning.specs.Reading.{StandsForState}
use Rattle.g_store_meaning.specs.StoreInvariant.{StoreFacts}

-- Exposed contents, belonging together and every represented state are preserved.
pub record MeansTheSame (old new : StoreFacts) : Type 0 where
  pub told : Told old → Told new
  pub belongs : Belongs old → Belongs new
  pub state : (s : State) → StandsForState old s → StandsForState new s
