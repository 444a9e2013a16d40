-- The writes that leave what a disc holds unchanged, whether or not they fail.
use Rattle.std.specs.Prelude.{◌≡◌, ℕ, ◌+◌, ◌<◌, ◌≤◌, ◌⊎◌, List, length, Contains, Some, slice_set}
use Rattle.g_slots.specs.Layout.{gate_side, other, start_of}
use Rattle.g_dirs.specs.Directory.{Directory, IsDirectory, all_places}
use Rattle.g_dirs.specs.Commit.{OldOrNew}
use Rattle.g_dirs.specs.Image.{StandsFor}
use Rattle.g_disc_contents.specs.Contents.{Contents, Holds, contents_of}

-- A write to a copy block that no file of the disc uses leaves what the disc holds.
abbrev pub QuietHoldsCopy : Type 0
QuietHoldsCopy = (blocks : List (List ℕ)) (place : ℕ) (left : List ℕ) (c : Contents) → 2177 ≤ place → Holds blocks c
    → ((d : Directory) → StandsFor blocks d → Contains (all_places d.files) place → ⊥) → Holds (slice_set blocks place left) c

-- A write to the slot that the gate doesn't name leaves what the disc holds.
abbrev pub QuietHoldsSlot : Type 0
QuietHoldsSlot = (blocks : List (List ℕ)) (k : ℕ) (left : List ℕ) (c : Contents) → k < 1088 → Holds blocks c
    → Holds (slice_set blocks (start_of (other (gate_side blocks)) + k) left) c

-- A commit, even if it was interrupted at any of its writes, leaves what the disc held, or the new directory with the bytes in
-- the blocks of its files.
abbrev pub CommitHolds : Type 0
CommitHolds = (before after : List (List ℕ)) (d : Directory) (c : Contents) → OldOrNew d before after → IsDirectory (length before) d → Holds before c
    → Holds after c ⊎ Holds after (contents_of (Some before) d)

-- A disc holds at most one contents.
abbrev pub HoldsOne : Type 0
HoldsOne = (blocks : List (List ℕ)) (c e : Contents) → Holds blocks c → Holds blocks e → c ≡ e
