-- The place of a number among files sorted by number.
use Rattle.std.specs.Prelude.{◌≡◌, ℕ, ◌<◌, ◌≤◌, List, length}
use Rattle.std.specs.List.{HoldsAt, AllWithin}
use Rattle.g_entry.specs.declared.file_rec.FileRec.{FileRec}

-- The file at the place has the number.
pub record StandsAt (files : List FileRec) (number place : ℕ) : Type 0 where
  pub within : place < length files
  pub has : HoldsAt (λ r. r.number ≡ number) files place

-- The place is where the number would fit: the numbers before it are lower, and those from it on greater.
pub record FitsAt (files : List FileRec) (number place : ℕ) : Type 0 where
  pub within : place ≤ length files
  pub below : AllWithin (λ r. r.number < number) files 0 place
  pub above : AllWithin (λ r. number < r.number) files place (length files)
