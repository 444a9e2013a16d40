-- Devices and stores that belong together have a state, and a store that exposes its contents has only one.
use Rattle.std.specs.Prelude.{◌≡◌, ℕ, true, false, List, Option, IfSome, Some, is_some}
use Rattle.g_tape.specs.Reel.{Reel}
use Rattle.g_store_model.specs.State.{State}
use Rattle.g_disc_contents.specs.Contents.{Contents, Holds}
use Rattle.g_store_meaning.specs.Answers.{Belongs, IsStore, Told}
use Rattle.g_store_meaning.specs.Belonging.{BelongWith}
use Rattle.g_store_meaning.specs.Reading.{DevicesStandFor, StandsForState}
use Rattle.g_store_meaning.specs.StoreInvariant.{StoreFacts}

-- A store that exposes its contents and whose devices belong together represents at most one state, whether it is up, has
-- an open dump, or is spent.
abbrev pub StoreIsOne : Type 0
StoreIsOne = (s : StoreFacts) (t u : State) → Told s → Belongs s → IsStore s → StandsForState s t → StandsForState s u → t ≡ u

-- These are the contents that the disc holds; with None, it holds none.
pub record AreContents (held : Option (List (List ℕ))) (contents : Option Contents) : Type 0 where
  pub are : IfSome contents (λ c. (blocks : List (List ℕ)) × (held ≡ Some blocks) × Holds blocks c)
  pub none : is_some contents ≡ false → (blocks : List (List ℕ)) (c : Contents) → held ≡ Some blocks → Holds blocks c → ⊥

-- If devices or a store belong together they have a state, whether or not they expose their contents.
pub record HaveStates : Type 0 where
  pub devices : (size : ℕ) (held : Option (List (List ℕ))) (reels : List Reel) (contents : Option Contents)
      → AreContents held contents → BelongWith held reels → (u : State) × DevicesStandFor size held reels u
  pub up : (s : StoreFacts) → s.spent ≡ false → Belongs s → IsStore s → (u : State) × StandsForState s u
  pub spent : (s : StoreFacts) (contents : Option Contents) → s.spent ≡ true → AreContents s.online.disc.held contents → Belongs s → (u : State) × StandsForState s u
