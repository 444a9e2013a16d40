-- WHAT WAS READ of a disc: its current slot, and the directory there with its format.
use Rattle.std.specs.Prelude.{ℕ, List, Option, Some, None, IfSome}
use Rattle.std.specs.Option.{ForSome}
use Rattle.g_entry.specs.declared.format.Format.{Format}
use Rattle.g_entry.specs.declared.format.Format.TheVariants.{Two}
use Rattle.g_slots.specs.Layout.{GateNames}
use Rattle.g_dirs.specs.declared.dirs.Dirs.{Dirs}
use Rattle.g_dirs.specs.Directory.{AreCopies, AreRecords, Directory, IsDirectory, directory_of}
use Rattle.g_look.specs.declared.disc.Standing.{Standing}
use Rattle.g_look.specs.Text.{IsFoundOn}

-- The directory in memory.
abbrev pub directory_in : Dirs → Directory
directory_in dirs = directory_of dirs.head dirs.users.items dirs.files.items dirs.online.items

-- The directory in memory, with its format.
abbrev pub found_in : Option (Format × Dirs) → Option (Format × Directory)
found_in None = None
found_in (Some f) = Some (f.0, directory_in f.1)

-- The directory is valid, whether or not the disc exposes its blocks.
pub record IsSound (size : ℕ) (dirs : Dirs) : Type 0 where
  pub copies : AreCopies dirs.files.items dirs.online.items
  pub records : AreRecords Two (directory_in dirs)
  pub rules : IsDirectory size (directory_in dirs)

-- What was read of the disc is right: its current slot, and the directory that it represents.
pub record IsStanding (size : ℕ) (held : Option (List (List ℕ))) (s : Standing) : Type 0 where
  pub side : GateNames s.side held
  pub found : ForSome held (λ blocks. IsFoundOn blocks (found_in s.dirs))
  pub sound : IfSome s.dirs (λ f. IsSound size f.1)
