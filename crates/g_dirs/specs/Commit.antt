-- What a commit of a directory does to a disc.
use Rattle.std.specs.Prelude.{◌≡◌, ◌⊎◌, ℕ, List, length}
use Rattle.g_slots.specs.Layout.{copy_area, current}
use Rattle.g_dirs.specs.Directory.{Directory}
use Rattle.g_dirs.specs.Image.{StandsFor}

-- the disc holds the directory, and the copy area is unchanged
pub record NewDirectory (d : Directory) (before after : List (List ℕ)) : Type 0 where
  pub stands : StandsFor after d
  pub copies : copy_area after ≡ copy_area before
  pub size : length after ≡ length before

-- the current slot is unchanged, or the disc holds the whole directory; the copy area is unchanged
pub record OldOrNew (d : Directory) (before after : List (List ℕ)) : Type 0 where
  pub whole : (current after ≡ current before) ⊎ StandsFor after d
  pub copies : copy_area after ≡ copy_area before
  pub size : length after ≡ length before
