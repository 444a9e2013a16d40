-- Files that are taken off the disc.
use Rattle.std.specs.Prelude.{◌≡◌, ◌≢◌, ℕ, ◌+◌, false, List, All, Some, slice_get}
use Rattle.std.specs.List.{flat_map}
use Rattle.g_copy.specs.declared.copy.DiscCopy.{DiscCopy}
use Rattle.g_slots.specs.declared.side.Side.{Side}
use Rattle.g_dirs.specs.Directory.{copy_at}
use Rattle.g_dirs.specs.Pages.{KeepsPages, Remembered, marks_of}
use Rattle.g_online.specs.Invariant.{copy_places}

-- The blocks of these files.
abbrev pub places_off : List ℕ → List (ℕ × DiscCopy) → List ℕ
places_off numbers online = flat_map (λ n. copy_places (copy_at online n)) numbers

-- What is remembered is unchanged. A block that has no mark now had none before, and it isn't that of one of these records.
-- Therefore their records are marked in both slots.
pub record MarksFiles (numbers : List ℕ) (old new : Remembered) : Type 0 where
  pub pages : KeepsPages old new
  pub free : (side : Side) (k : ℕ) → slice_get (marks_of side new) k ≡ Some false → (slice_get (marks_of side old) k ≡ Some false) × All (λ n. k ≢ 64 + n) numbers
