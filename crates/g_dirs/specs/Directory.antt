-- A directory: the records of a filestore on a disc, and the rules that they satisfy.
use Rattle.std.specs.Prelude.{◌≡◌, ◌≢◌, ◌⊎◌, ℕ, ◌<◌, ◌==◌, true, List, [], length, map, find, All, AllPairs, Contains, Option, Some, None, IfSome, is_some, option_map}
use Rattle.std.specs.List.{flat_map}
use Rattle.g_base.specs.Block.{blocks_for}
use Rattle.g_blocks.specs.Pool.{IsInArea}
use Rattle.g_copy.specs.declared.copy.DiscCopy.{DiscCopy}
use Rattle.g_entry.specs.declared.file_rec.FileRec.{FileRec}
use Rattle.g_entry.specs.declared.format.Format.{Format}
use Rattle.g_entry.specs.declared.head.Head.{Head}
use Rattle.g_entry.specs.declared.user_rec.UserRec.{UserRec}
use Rattle.g_entry.specs.FileFields.{IsFile}
use Rattle.g_entry.specs.Formats.{is_place}
use Rattle.g_entry.specs.HeadFields.{IsHead}
use Rattle.g_entry.specs.Rules.{AreFiles, AreNumbered, AreUsers, StampsBelow}
use Rattle.g_entry.specs.UserFields.{IsUser}

-- a file's record, and its copy on disc if it is online
abbrev pub FileEntry : Type 0
FileEntry = FileRec × Option DiscCopy

pub record Directory : Type 0 where
  pub head : Head
  pub users : List UserRec
  pub files : List FileEntry

abbrev pub recs : List FileEntry → List FileRec
recs files = map (λ f. f.0) files

-- the copy of a file, in a list of copies by file number
abbrev pub copy_at : List (ℕ × DiscCopy) → ℕ → Option DiscCopy
copy_at online number = option_map (λ c. c.1) (find (λ c. c.0 == number) online)

-- each file with its copy
abbrev pub entries_of : List FileRec → List (ℕ × DiscCopy) → List FileEntry
entries_of files online = map (λ r. (r, copy_at online r.number)) files

-- a directory from its lists
abbrev pub directory_of : Head → List UserRec → List FileRec → List (ℕ × DiscCopy) → Directory
directory_of head users files online = record { head = head; users = users; files = entries_of files online }

-- copies by file number: in order of number, and each of a file
pub record AreCopies (files : List FileRec) (online : List (ℕ × DiscCopy)) : Type 0 where
  pub rising : AllPairs (λ c d. c.0 < d.0) online
  pub files_are : All (λ c. Contains (map (λ r. r.number) files) c.0) online

-- the numbers of a file's blocks on disc
abbrev pub places_of : FileEntry → List ℕ
places_of (rec, None) = []
places_of (rec, Some copy) = copy.blocks

abbrev pub all_places : List FileEntry → List ℕ
all_places files = flat_map places_of files

-- a copy of the file's length, with as many block numbers as that needs
pub record IsCopyOf (rec : FileRec) (copy : DiscCopy) : Type 0 where
  pub len : copy.len ≡ rec.len
  pub count : length copy.blocks ≡ blocks_for rec.len

-- a file is on disc or has a copy on tape; an empty one is on disc
pub record LiesSomewhere (f : FileEntry) : Type 0 where
  pub lies : (is_some f.1 ≡ true) ⊎ (is_some f.0.tape ≡ true)
  pub empty : f.0.len ≡ 0 → is_some f.1 ≡ true
  pub copy : IfSome f.1 (IsCopyOf f.0)

-- each record of a directory can be encoded in a format
pub record AreRecords (format : Format) (d : Directory) : Type 0 where
  pub head : IsHead d.head
  pub users : All (IsUser format) d.users
  pub files : All IsFile (recs d.files)
  pub places : All (λ place. is_place format place ≡ true) (all_places d.files)

-- THE RULES OF A DIRECTORY on a disc of `size` blocks
pub record IsDirectory (size : ℕ) (d : Directory) : Type 0 where
  pub users : AreUsers d.users
  pub numbered : AreNumbered (recs d.files)
  pub files : AreFiles (length d.users) (recs d.files)
  pub dated : StampsBelow d.head.next_stamp (recs d.files)
  pub lies : All LiesSomewhere d.files
  pub area : All (IsInArea size) (all_places d.files)
  pub apart : AllPairs (λ j k. j ≢ k) (all_places d.files)
