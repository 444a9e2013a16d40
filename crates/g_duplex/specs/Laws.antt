-- The laws of paired reels.
use Rattle.std.specs.Prelude.{◌≡◌, ◌≢◌, ◌⊎◌, ◌<◌, ℕ, List, [], ◌∷◌, true, false, Some, Ok, Err, is_some}
use Rattle.std.specs.Option.{ForSome}
use Rattle.g_base.specs.Counts.{Rose}
use Rattle.g_tape.specs.declared.fault.TapeFault.TheVariants.{ReadFailed, WriteFailed}
use Rattle.g_tape.specs.Reel.{Reel}
use Rattle.g_tape.specs.Rack.{Rack, Reading, Writing, reel}
use Rattle.g_duplex.specs.Twins.{AreTwins, is_lost, may_help, pair_reel}
use Rattle.g_duplex.specs.Pair.{ArePaired, Pair, pair_reels, standing_in, stands}
use Rattle.g_duplex.specs.Calls.{Answer, PairReads, PairWrites, behind, leading}
use Rattle.g_duplex.specs.declared.twin.Twin.TheVariants.{First, Second}
use Rattle.g_duplex.specs.declared.twin.Standing.{Standing}
use Rattle.g_duplex.specs.declared.twin.Standing.TheVariants.{Level, Lost}

-- Another reel in the place of a lost twin: it has the same label, and exposes its blocks if the lost one did. What it
-- holds and whether it is mounted may be anything.
pub record IsInPlaceOf (a a' : Reel) : Type 0 where
  pub serial : a'.serial ≡ a.serial
  pub capacity : a'.capacity ≡ a.capacity
  pub told : is_some a'.blocks ≡ is_some a.blocks

-- A level pair shows the same when a twin is lost, whatever the lost twin then holds.
pub record LossIsNotSeen : Type 0 where
  pub first : (a b a' : Reel) → AreTwins Level a b → a.mounted ≡ b.mounted → IsInPlaceOf a a' → pair_reel (Lost First) a' b ≡ pair_reel Level a b
  pub second : (a b b' : Reel) → AreTwins Level a b → a.mounted ≡ b.mounted → IsInPlaceOf b b' → pair_reel (Lost Second) a b' ≡ pair_reel Level a b

-- Two twins, and two others of which one may be lost: either they are the same reels with the same standing; or they
-- were level and mounted alike, one is lost, and another reel is in its place.
abbrev pub WithLoss : Standing → Reel → Reel → Standing → Reel → Reel → Type 0
WithLoss t a b u c d =
    ((u ≡ t) × (c ≡ a) × (d ≡ b))
    ⊎ ((t ≡ Level) × (u ≡ Lost First) × (d ≡ b) × AreTwins Level a b × (a.mounted ≡ b.mounted) × IsInPlaceOf a c)
    ⊎ ((t ≡ Level) × (u ≡ Lost Second) × (c ≡ a) × AreTwins Level a b × (a.mounted ≡ b.mounted) × IsInPlaceOf b d)

-- The same for each of the twins.
abbrev pub WithLosses : List Standing → List Reel → List Reel → List Standing → List Reel → List Reel → Type 0
WithLosses [] xs ys [] cs ds = Unit {0}
WithLosses (t ∷ ts) (a ∷ xs) (b ∷ ys) (u ∷ us) (c ∷ cs) (d ∷ ds) = WithLoss t a b u c d × WithLosses ts xs ys us cs ds
WithLosses ts xs ys us cs ds = ⊥

-- The reels that a pair shows don't depend on which twins are lost.
abbrev pub LossesAreNotSeen : Type 0
LossesAreNotSeen = (ts us : List Standing) (xs ys cs ds : List Reel) → WithLosses ts xs ys us cs ds → pair_reels us cs ds ≡ pair_reels ts xs ys

-- A read fails only if it failed on each twin that may be read, and a write only if it failed on the leading twin.
pub record FailsWithAll : Type 0 where
  pub reads : (s k : ℕ) (old new : Pair) (into : List ℕ) → PairReads s k old (Err ReadFailed) into new → ForSome (standing_in s old) (λ t.
      Rose (leading t old).read_faults (leading t new).read_faults × (may_help k t ≡ true → Rose (behind t old).read_faults (behind t new).read_faults))
  pub writes : (s k : ℕ) (block : List ℕ) (old new : Pair) → PairWrites s k block old (Err WriteFailed) new → ForSome (standing_in s old) (λ t.
      Rose (leading t old).write_faults (leading t new).write_faults)

-- The rack without its fault counts and its risks.
abbrev pub uncounted : Rack → Rack
uncounted r = record r { read_faults = 0; write_faults = 0; risks = [] }

-- The racks are equal, apart from their fault counts and from what a power loss may leave of them.
abbrev pub Alike : Rack → Rack → Type 0
Alike p q = uncounted p ≡ uncounted q

-- Racks that show the same give the same answers, and show the same afterwards, as long as no call fails.
pub record AnswerAlike : Type 0 where
  pub reads : (s k : ℕ) (p q p' q' : Rack) (r r' : Answer) (i i' : List ℕ) → Alike p q → Reading s k p r i p' → Reading s k q r' i' q'
      → r ≢ Err ReadFailed → r' ≢ Err ReadFailed → (r ≡ r') × Alike p' q'
      × (r ≡ Ok tt → ForSome (reel s p.reels) (λ x. is_some x.blocks ≡ true → i ≡ i'))
  pub writes : (s k : ℕ) (block : List ℕ) (p q p' q' : Rack) (r r' : Answer) → Alike p q → Writing s k block p r p' → Writing s k block q r' q'
      → r ≢ Err WriteFailed → r' ≢ Err WriteFailed → (r ≡ r') × Alike p' q'

-- A write loses the second twin only if its rack's write failed, or if its reel was too short for the block.
abbrev pub LosesWithCause : Type 0
LosesWithCause = (s k : ℕ) (block : List ℕ) (old : Pair) (result : Answer) (new : Pair) (t : Standing) → ArePaired old.standings old.first.reels old.second.reels
    → PairWrites s k block old result new → standing_in s old ≡ Some t → is_lost t ≡ false → new.standings ≡ stands s (λ _. Lost Second) old
    → Rose old.second.write_faults new.second.write_faults ⊎ ForSome (reel s old.second.reels) (λ r. r.len < k)
