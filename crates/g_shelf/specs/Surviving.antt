-- Which completed dumps a reel has after a power loss.
use Rattle.std.specs.Prelude.{◌≡◌, ◌⊎◌, ℕ, ◌+◌, ◌<◌, ◌≤◌, true, List, [], ◌∷◌, ◌++◌, length, take}
use Rattle.std.specs.Option.{ForSome}
use Rattle.g_tape.specs.Durable.{AfterPowerLoss, IsDurableTo}
use Rattle.g_tape.specs.Rack.{Rack}
use Rattle.g_tape.specs.Reads.{blocks_of, is_syncable}
use Rattle.g_incr.specs.Layout.{Dump, count_of}
use Rattle.g_shelf.specs.CompletedDumps.{AreCompleted}
use Rattle.g_shelf.specs.QuietWrites.{IsBegun}

-- The completed dumps of the reel survive a power loss, which completes no other dump on it.
abbrev pub DumpsSurvive : ℕ → Rack → Type 0
DumpsSurvive serial rack =
    ForSome (blocks_of serial rack) (λ blocks. (dumps : List Dump) → AreCompleted serial blocks dumps → AfterPowerLoss serial rack (λ left. AreCompleted serial left dumps))

-- They survive, or will once the reel has been secured, since the device still has its blocks.
abbrev pub CanSurvive : ℕ → Rack → Type 0
CanSurvive serial rack = DumpsSurvive serial rack ⊎ (is_syncable serial rack ≡ true)

-- A power loss leaves the reel with these dumps, or with these and another one.
abbrev pub LeavesWithOrWithout : ℕ → Rack → List Dump → Dump → Type 0
LeavesWithOrWithout serial rack dumps d = AfterPowerLoss serial rack (λ left. AreCompleted serial left dumps ⊎ AreCompleted serial left (dumps ++ d ∷ []))

-- A dump whose first j blocks are written, from block `place` on: its header is durable, so no mark but its own can complete it; no block
-- follows them on the device; and the device still has the rest.
pub record IsBegunDurably (serial place j : ℕ) (rack : Rack) : Type 0 where
  pub header : IsDurableTo (place + 1) serial rack
  pub short : AfterPowerLoss serial rack (λ left. length left ≤ place + j)
  pub syncable : is_syncable serial rack ≡ true

-- A header that survives, without a block in the place of its mark, completes no dump, whatever blocks follow it.
abbrev pub BegunCompletesNothing : Type 0
BegunCompletesNothing = (serial j : ℕ) (blocks left : List (List ℕ)) (ds : List Dump) (d : Dump) → AreCompleted serial blocks ds → IsBegun serial blocks ds j d → 0 < j
    → take (d.place + 1) left ≡ take (d.place + 1) blocks → length left ≤ d.place + (count_of d + 1) → AreCompleted serial left ds

-- All of a dump but its mark, with any block in the place of the mark or with none, completes none but this dump.
abbrev pub MarkCompletesOne : Type 0
MarkCompletesOne = (serial : ℕ) (blocks left : List (List ℕ)) (ds : List Dump) (d : Dump) → AreCompleted serial blocks ds → IsBegun serial blocks ds (count_of d + 1) d
    → take (d.place + (count_of d + 1)) left ≡ take (d.place + (count_of d + 1)) blocks → length left ≤ d.place + (count_of d + 1) + 1
    → AreCompleted serial left ds ⊎ AreCompleted serial left (ds ++ d ∷ [])
