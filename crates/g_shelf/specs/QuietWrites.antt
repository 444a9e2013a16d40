-- The writes of tape that leave the completed dumps unchanged, whether or not they fail, and the write that adds a
-- dump.
use Rattle.std.specs.Prelude.{◌≡◌, ◌⊎◌, ℕ, ◌+◌, ◌<◌, ◌≤◌, List, [], ◌∷◌, ◌++◌, length, take, drop}
use Rattle.g_tape.specs.Reel.{Remains, Unchanged, Shortened, Torn}
use Rattle.g_incr.specs.Layout.{Dump, IsDump, count_of, dump_blocks}
use Rattle.g_shelf.specs.CompletedDumps.{AreCompleted, end_of, number_behind}

-- The blocks of a reel after a write of block k. A successful write is `Torn` with the block that was written.
abbrev pub left_in : Remains → ℕ → List (List ℕ) → List (List ℕ)
left_in Unchanged k reel = reel
left_in Shortened k reel = take k reel
left_in (Torn block) k reel = take k reel ++ block ∷ []

-- The reel ends with the first j blocks of a dump after the completed ones.
pub record IsBegun (serial : ℕ) (reel : List (List ℕ)) (dumps : List Dump) (j : ℕ) (d : Dump) : Type 0 where
  pub rules : IsDump d
  pub on : d.serial ≡ serial
  pub place : d.place ≡ end_of dumps
  pub number : number_behind 0 dumps ≤ d.number
  pub length : 0 < j → length reel ≡ d.place + j
  pub blocks : 0 < j → drop d.place reel ≡ take j (dump_blocks d)

-- Writing the next block of a dump before its mark leaves the completed dumps unchanged.
abbrev pub QuietBlocks : Type 0
QuietBlocks = (serial : ℕ) (reel : List (List ℕ)) (dumps : List Dump) (j : ℕ) (d : Dump) (how : Remains)
    → AreCompleted serial reel dumps → IsBegun serial reel dumps j d → j ≤ count_of d → AreCompleted serial (left_in how (d.place + j) reel) dumps

-- Writing the mark of a dump leaves the completed dumps unchanged, or adds that dump.
abbrev pub MarkCompletes : Type 0
MarkCompletes = (serial : ℕ) (reel : List (List ℕ)) (dumps : List Dump) (d : Dump) (how : Remains)
    → AreCompleted serial reel dumps → IsBegun serial reel dumps (count_of d + 1) d
    → AreCompleted serial (left_in how (d.place + (count_of d + 1)) reel) dumps
    ⊎ AreCompleted serial (left_in how (d.place + (count_of d + 1)) reel) (dumps ++ d ∷ [])
