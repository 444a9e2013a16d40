-- What the block of a number encodes: a record, or that the number is unused.
use Rattle.std.specs.Prelude.{◌≡◌, ℕ, List, [], ◌∷◌, ◌++◌, length, replicate, Option, Some, None, IfSome, option_map}
use Rattle.std.specs.Option.{option_to_list}
use Rattle.g_copy.specs.declared.copy.DiscCopy.{DiscCopy}
use Rattle.g_entry.specs.declared.file_rec.FileRec.{FileRec}
use Rattle.g_entry.specs.declared.format.Format.{Format}
use Rattle.g_entry.specs.declared.user_rec.UserRec.{UserRec}
use Rattle.g_entry.specs.FileFields.{ArePlaces, IsFile, file_block}
use Rattle.g_entry.specs.UserFields.{IsUser}
use Rattle.g_dirs.specs.Image.{user_or_empty}

-- the block of this number is this user's, or of an unused number
pub record IsUserCell (format : Format) (number : ℕ) (block : List ℕ) (cell : Option UserRec) : Type 0 where
  pub user : IfSome cell (λ u. (u.number ≡ number) × IsUser format u)
  pub block_is : block ≡ user_or_empty format cell

-- the user of this number, if there is one, is appended
pub record TakesUser (format : Format) (number : ℕ) (block : List ℕ) (old new : List UserRec) : Type 0 where
  pub cell : Option UserRec
  pub holds : IsUserCell format number block cell
  pub next : IfSome cell (λ u. length old ≡ number)
  pub added : new ≡ old ++ option_to_list cell

-- a file's record, and its block numbers if it is online
abbrev pub FileCell : Type 0
FileCell = FileRec × Option (List ℕ)

abbrev pub file_cell_block : Format → Option FileCell → List ℕ
file_cell_block format None = replicate 512 0
file_cell_block format (Some (rec, places)) = file_block format rec places

-- the block of this number is this file's, or of an unused number
pub record IsFileCell (format : Format) (number : ℕ) (block : List ℕ) (cell : Option FileCell) : Type 0 where
  pub file : IfSome cell (λ f. (f.0.number ≡ number) × IsFile f.0 × IfSome f.1 (ArePlaces format f.0.len))
  pub block_is : block ≡ file_cell_block format cell

-- the copy on disc of a file, if it is online
abbrev pub copies_in : FileRec → Option (List ℕ) → List (ℕ × DiscCopy)
copies_in rec None = []
copies_in rec (Some places) = (rec.number, record { blocks = places; len = rec.len }) ∷ []

abbrev pub recs_in : Option FileCell → List FileRec
recs_in cell = option_to_list (option_map (λ f. f.0) cell)

abbrev pub copies_of : Option FileCell → List (ℕ × DiscCopy)
copies_of None = []
copies_of (Some (rec, places)) = copies_in rec places

-- the file of this number, if there is one, and its copy are appended
pub record TakesFile (format : Format) (number : ℕ) (block : List ℕ) (old new : List FileRec) (old_copies new_copies : List (ℕ × DiscCopy)) : Type 0 where
  pub cell : Option FileCell
  pub holds : IsFileCell format number block cell
  pub added : new ≡ old ++ recs_in cell
  pub copies : new_copies ≡ old_copies ++ copies_of cell
