-- Comparing a reel with the reel of the same serial in another rack, and copying it from there.
use Rattle.std.specs.Prelude.{◌≡◌, ◌≢◌, ◌⊎◌, ◌↔◌, ℕ, List, Bool, true, IsTrue, Option, None, Some, Result, Ok, Err, slice_get, take}
use Rattle.std.specs.Option.{ForSome}
use Rattle.g_base.specs.Counts.{Rose}
use Rattle.g_tape.specs.Reel.{Reel, ending}
use Rattle.g_tape.specs.Rack.{Rack, reel, with_reel}
use Rattle.g_tape.specs.Reads.{OnlyReads, blocks_of}
use Rattle.g_duplex.specs.declared.fault.DuplexFault.{DuplexFault}
use Rattle.g_duplex.specs.declared.fault.DuplexFault.TheVariants.{ReadFailed, WriteFailed}

-- Both reels are equally long and hold the same blocks, as far as they expose them.
pub record HoldSame (a b : Reel) : Type 0 where
  pub long : a.len ≡ b.len
  pub blocks : ForSome a.blocks (λ p. ForSome b.blocks (λ q. p ≡ q))

-- The property holds for the reels of this serial in two racks, if both racks have it.
abbrev pub BothReels : ℕ → Rack → Rack → (Reel → Reel → Type 0) → Type 0
BothReels s p q P = ForSome (reel s p.reels) (λ a. ForSome (reel s q.reels) (λ b. P a b))

-- The property holds for the blocks of this serial in two racks, if both racks expose them.
abbrev pub BothTold : ℕ → Rack → Rack → (List (List ℕ) → List (List ℕ) → Type 0) → Type 0
BothTold s p q P = ForSome (blocks_of s p) (λ xs. ForSome (blocks_of s q) (λ ys. P xs ys))

-- The answer says whether block k is the same in both racks, or a read of it failed.
abbrev pub SameBlock : ℕ → ℕ → Rack → Rack → Result Bool DuplexFault → Rack → Rack → Type 0
SameBlock s k p q (Ok same) p' q' = BothTold s p q (λ xs ys. IsTrue same ↔ (slice_get xs k ≡ slice_get ys k))
SameBlock s k p q (Err ReadFailed) p' q' = Rose p.read_faults p'.read_faults ⊎ Rose q.read_faults q'.read_faults
SameBlock s k p q (Err fault) p' q' = ⊥

-- Two reels hold the same blocks before k, and not the same block k: it differs, or only one of them has it.
abbrev pub DiffersAt : ℕ → List (List ℕ) → List (List ℕ) → Type 0
DiffersAt k xs ys = (take k xs ≡ take k ys) × (slice_get xs k ≢ slice_get ys k)

-- The answer is the first block that differs, or none if the reels are equally long and hold the same blocks; or a read failed.
abbrev pub FirstDifference : ℕ → Rack → Rack → Result (Option ℕ) DuplexFault → Rack → Rack → Type 0
FirstDifference s p q (Ok None) p' q' = BothReels s p q (λ a b. a.len ≡ b.len) × BothTold s p q (λ xs ys. xs ≡ ys)
FirstDifference s p q (Ok (Some k)) p' q' = BothTold s p q (DiffersAt k)
FirstDifference s p q (Err ReadFailed) p' q' = Rose p.read_faults p'.read_faults ⊎ Rose q.read_faults q'.read_faults
FirstDifference s p q (Err fault) p' q' = ⊥

-- The answer says whether all blocks are the same in both racks, or a read failed.
abbrev pub SameReel : ℕ → Rack → Rack → Result Bool DuplexFault → Rack → Rack → Type 0
SameReel s p q (Ok same) p' q' = (same ≡ true → BothReels s p q (λ a b. a.len ≡ b.len)) × BothTold s p q (λ xs ys. IsTrue same ↔ (xs ≡ ys))
SameReel s p q (Err ReadFailed) p' q' = Rose p.read_faults p'.read_faults ⊎ Rose q.read_faults q'.read_faults
SameReel s p q (Err fault) p' q' = ⊥

-- A change of a reel that preserves its serial, its capacity and whether it is mounted.
pub record KeepsLabel (g : Reel → Reel) : Type 0 where
  pub serial : (r : Reel) → (g r).serial ≡ r.serial
  pub capacity : (r : Reel) → (g r).capacity ≡ r.capacity
  pub mounted : (r : Reel) → (g r).mounted ≡ r.mounted

-- One reel of the rack was changed, and nothing else but the count of failed writes and the fuse.
pub record IsWrittenAt (s : ℕ) (old new : Rack) : Type 0 where
  pub change : (g : Reel → Reel) × KeepsLabel g × (new.reels ≡ with_reel s g old.reels)
  pub read_faults : new.read_faults ≡ old.read_faults
  pub arms : new.arms ≡ old.arms

-- Block k was read from one rack and written to the other, or one of these failed.
abbrev pub BlockAnswer : ℕ → ℕ → Rack → Rack → Result (Unit {0}) DuplexFault → Rack → Rack → Type 0
BlockAnswer s k from to (Ok u) from' to' = (block : List ℕ) × ForSome (blocks_of s from) (λ bs. slice_get bs k ≡ Some block)
    × (to'.reels ≡ with_reel s (ending k block) to.reels) × (to'.write_faults ≡ to.write_faults)
BlockAnswer s k from to (Err ReadFailed) from' to' = Rose from.read_faults from'.read_faults
BlockAnswer s k from to (Err WriteFailed) from' to' = Rose to.write_faults to'.write_faults
BlockAnswer s k from to (Err fault) from' to' = ⊥

-- Copying one block: the source was only read, and in the target no other reel was changed.
pub record BlockCopied (s k : ℕ) (from to : Rack) (result : Result (Unit {0}) DuplexFault) (from' to' : Rack) : Type 0 where
  pub source : OnlyReads from from'
  pub written : IsWrittenAt s to to'
  pub answer : BlockAnswer s k from to result from' to'

-- The whole reel was copied from the other rack, or that failed.
abbrev pub ReelAnswer : ℕ → Rack → Rack → Result (Unit {0}) DuplexFault → Rack → Rack → Type 0
ReelAnswer s from to (Ok u) from' to' = BothReels s to' from' HoldSame
ReelAnswer s from to (Err ReadFailed) from' to' = Rose from.read_faults from'.read_faults
ReelAnswer s from to (Err WriteFailed) from' to' = Rose to.write_faults to'.write_faults
ReelAnswer s from to (Err fault) from' to' = ⊥

-- Copying a reel: the source was only read, and in the target no other reel was changed.
pub record ReelCopied (s : ℕ) (from to : Rack) (result : Result (Unit {0}) DuplexFault) (from' to' : Rack) : Type 0 where
  pub source : OnlyReads from from'
  pub written : IsWrittenAt s to to'
  pub answer : ReelAnswer s from to result from' to'
