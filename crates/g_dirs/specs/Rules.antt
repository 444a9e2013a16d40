-- What holds for the records of a slot before the rules between them are checked, and the rules one by one.
use Rattle.std.specs.Prelude.{◌≡◌, ◌≢◌, ℕ, List, ◌∷◌, length, All, AllPairs}
use Rattle.std.specs.List.{flat_map}
use Rattle.g_blocks.specs.Pool.{IsInArea}
use Rattle.g_copy.specs.declared.copy.DiscCopy.{DiscCopy}
use Rattle.g_entry.specs.declared.file_rec.FileRec.{FileRec}
use Rattle.g_entry.specs.declared.user_rec.UserRec.{UserRec}
use Rattle.g_entry.specs.Rules.{AreFiles, AreNumbered, AreUsers, StampsBelow}
use Rattle.g_dirs.specs.declared.dirs.Dirs.{Dirs}
use Rattle.g_dirs.specs.Directory.{AreCopies, LiesSomewhere, entries_of}

pub record AreRead (dirs : Dirs) : Type 0 where
  pub numbered : AreNumbered dirs.files.items
  pub copies : AreCopies dirs.files.items dirs.online.items

-- all block numbers of a list of copies
abbrev pub numbers_of : List (ℕ × DiscCopy) → List ℕ
numbers_of online = flat_map (λ c. c.1.blocks) online

-- they are distinct numbers of copy blocks
pub record AreApart (size : ℕ) (places : List ℕ) : Type 0 where
  pub area : All (IsInArea size) places
  pub apart : AllPairs (λ j k. j ≢ k) places

-- the next copy isn't this file's
pub record HasNoCopy (number : ℕ) (online : List (ℕ × DiscCopy)) : Type 0 where
  pub first : (c : ℕ × DiscCopy) (rest : List (ℕ × DiscCopy)) → online ≡ c ∷ rest → c.0 ≢ number

-- all rules that are checked
pub record KeepAll (size next : ℕ) (users : List UserRec) (files : List FileRec) (online : List (ℕ × DiscCopy)) : Type 0 where
  pub users_are : AreUsers users
  pub files_are : AreFiles (length users) files
  pub dated : StampsBelow next files
  pub lie : All LiesSomewhere (entries_of files online)
  pub places : AreApart size (numbers_of online)
