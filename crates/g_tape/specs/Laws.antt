-- The laws of reads.
use Rattle.std.specs.Prelude.{◌≡◌, ℕ, List, Result, Ok}
use Rattle.g_tape.specs.declared.fault.TapeFault.{TapeFault}
use Rattle.g_tape.specs.Rack.{Rack, AreReels, Reading, Securing, SecuringAll}
use Rattle.g_tape.specs.Reads.{LeavesNoMore, OnlyReads, HasRead, blocks_of}

-- A read changes only read counts; a successful one counts its block; reads change no exposed block; and making a reel durable is, as
-- far as a caller can observe, a read or nothing.
pub record ReadsOnlyRead : Type 0 where
  pub only : (s k : ℕ) (old new : Rack) (result : Result (Unit {0}) TapeFault) (into : List ℕ) → Reading s k old result into new → OnlyReads old new
  pub counted : (s k : ℕ) (old new : Rack) (into : List ℕ) → AreReels old.reels → Reading s k old (Ok tt) into new → HasRead s k old new
  pub blocks : (s : ℕ) (old new : Rack) → OnlyReads old new → blocks_of s new ≡ blocks_of s old
  pub secured : (s : ℕ) (old new : Rack) (result : Result (Unit {0}) TapeFault) → Securing s old result new → LeavesNoMore old new → OnlyReads old new
  pub all_secured : (old new : Rack) (result : Result (Unit {0}) TapeFault) → SecuringAll old result new → LeavesNoMore old new → OnlyReads old new
