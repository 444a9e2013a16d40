-- The writes that don't change the directory that a disc holds, even if they fail; and that a disc holds at most one.
use Rattle.std.specs.Prelude.{◌≡◌, ℕ, ◌+◌, ◌<◌, ◌≤◌, List, Contains, slice_set}
use Rattle.g_copy.specs.Copy.{bytes_at}
use Rattle.g_slots.specs.Layout.{gate_side, other, start_of}
use Rattle.g_dirs.specs.Directory.{Directory}
use Rattle.g_dirs.specs.Image.{StandsFor}

-- a write into the slot that the gate doesn't name
abbrev pub QuietSlot : Type 0
QuietSlot = (blocks : List (List ℕ)) (k : ℕ) (left : List ℕ) (d : Directory) → k < 1088
    → StandsFor blocks d → StandsFor (slice_set blocks (start_of (other (gate_side blocks)) + k) left) d

-- a write into the copy area
abbrev pub QuietCopy : Type 0
QuietCopy = (blocks : List (List ℕ)) (place : ℕ) (left : List ℕ) (d : Directory) → 2177 ≤ place
    → StandsFor blocks d → StandsFor (slice_set blocks place left) d

-- bytes whose blocks aren't written
abbrev pub QuietBytes : Type 0
QuietBytes = (blocks : List (List ℕ)) (place : ℕ) (left places : List ℕ) (len : ℕ) → (Contains places place → ⊥)
    → bytes_at places len (slice_set blocks place left) ≡ bytes_at places len blocks

-- a disc holds at most one directory
abbrev pub StandsForOne : Type 0
StandsForOne = (blocks : List (List ℕ)) (d e : Directory) → StandsFor blocks d → StandsFor blocks e → d ≡ e
