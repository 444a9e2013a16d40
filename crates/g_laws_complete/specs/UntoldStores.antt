-- A store whose devices don't expose all their contents has a state, whether or not disc and rack belong together: what is
-- in memory, with a text of the right length for each version. Therefore every promise about answers that refers to the
-- represented state (each refusal, number and length of the step) also holds on real files.
use Rattle.std.specs.Prelude.{◌≡◌, ℕ, false, List, length, All, None}
use Rattle.std.specs.Option.{ForSome}
use Rattle.g_base.specs.Block.{IsBlock}
use Rattle.g_incr.specs.Layout.{Dump}
use Rattle.g_shelf.specs.CompletedDumps.{AreShelved}
use Rattle.g_store_model.specs.State.{State}
use Rattle.g_store_meaning.specs.Answers.{IsStore, Told}
use Rattle.g_store_meaning.specs.Meaning.{told_reels}
use Rattle.g_store_meaning.specs.Reading.{StandsForState}
use Rattle.g_store_meaning.specs.StoreInvariant.{StoreFacts}

-- The contents of the disc, if exposed, are as many blocks as its size says, each of 512 bytes.
pub record HasBlocks (s : StoreFacts) : Type 0 where
  pub blocks : ForSome s.online.disc.held (λ blocks. (length blocks ≡ s.online.disc.size) × All IsBlock blocks)

-- For any completed dumps of the reels that expose their contents.
abbrev pub UntoldHaveStates : Type 0
UntoldHaveStates = (s : StoreFacts) (shelf : ℕ → List Dump) → s.spent ≡ false → IsStore s → (Told s → ⊥) → HasBlocks s → AreShelved shelf (told_reels s.rack)
    → (u : State) × StandsForState s u

-- On real files, which expose nothing, no other premise is needed.
abbrev pub RealHaveStates : Type 0
RealHaveStates = (s : StoreFacts) → s.spent ≡ false → IsStore s → s.online.disc.held ≡ None → All (λ r. r.blocks ≡ None) (told_reels s.rack) → (u : State) × StandsForState s u
