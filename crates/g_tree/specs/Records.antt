-- The tree of names that numbered records represent.
use Rattle.std.specs.Prelude.{◌≡◌, ℕ, [], ◌∷◌, List, map, length, All, Contains, Option, IfSome, slice_index_or}
use Rattle.std.specs.Option.{option_map}
use Rattle.std.specs.Ordering.{nat_cmp}
use Rattle.std.specs.FinMap.{FinMap, get, from_entries}
use Rattle.g_name.specs.declared.full.Full.{Full}
use Rattle.g_name.specs.Order.{text_cmp, full_cmp}
use Rattle.g_trap.specs.TrapList.{TrapList}
use Rattle.g_entry.specs.declared.format.Format.TheVariants.{Two}
use Rattle.g_entry.specs.declared.user_rec.UserRec.{UserRec}
use Rattle.g_entry.specs.declared.file_rec.FileRec.{FileRec}
use Rattle.g_entry.specs.UserFields.{IsUser}
use Rattle.g_entry.specs.FileFields.{IsFile}
use Rattle.g_entry.specs.Rules.{AreUsers, AreNumbered, AreFiles}
use Rattle.g_plain.specs.PlainTree.{UserRow, FileRow, Tree, file_row}

-- The rules of records: those of each record, and those that the records satisfy together, apart from rules about the
-- next stamp and the disc.
pub record IsRecords (users : List UserRec) (files : List FileRec) : Type 0 where
  pub each_user : All (IsUser Two) users
  pub among_users : AreUsers users
  pub each_file : All IsFile files
  pub numbers : AreNumbered files
  pub among_files : AreFiles (length users) files

-- The name of the user with this number; empty if there is none.
abbrev pub name_of : List UserRec → ℕ → List ℕ
name_of users number = slice_index_or (map (λ u. u.user) users) number []

-- The full name of a file.
abbrev pub full_of : List UserRec → FileRec → Full
full_of users r = record { user = name_of users r.owner; local = r.local; generation = r.generation; lang = r.lang }

-- The traps of a file by users' names, including the owner's.
abbrev pub traps_named : List UserRec → ℕ → TrapList → FinMap text_cmp ℕ
traps_named users owner traps = from_entries ((name_of users owner, traps.owner) ∷ map (λ pair. (name_of users pair.0, pair.1)) traps.others)

-- The row of a user.
abbrev pub user_row_of : List UserRec → UserRec → UserRow
user_row_of users u = record { superior = name_of users u.superior; space = u.space; time = u.time; money = u.money }

-- The row of a file, with these bytes.
abbrev pub file_row_of : List UserRec → (FileRec → List ℕ) → FileRec → FileRow
file_row_of users bytes r = record { traps = traps_named users r.owner r.traps; bytes = bytes r; stamp = r.stamp }

-- The tree that the records represent, if each file has these bytes.
abbrev pub tree_of : List UserRec → List FileRec → (FileRec → List ℕ) → ℕ → Tree
tree_of users files bytes next = record {
  users = from_entries (map (λ u. (u.user, user_row_of users u)) users);
  files = from_entries (map (λ r. (full_of users r, file_row_of users bytes r)) files);
  next = next;
}

-- Each file has as many bytes as its record says.
abbrev pub HasLengths : List FileRec → (FileRec → List ℕ) → Type 0
HasLengths files bytes = (r : FileRec) → Contains files r → length (bytes r) ≡ r.len

-- The tree of these records has the property, for any bytes and any next stamp.
abbrev pub ForTree : List UserRec → List FileRec → (Tree → Type 0) → Type 0
ForTree users files P = (bytes : FileRec → List ℕ) (next : ℕ) → P (tree_of users files bytes next)

-- The records of users by name.
abbrev pub users_by_name : List UserRec → FinMap text_cmp UserRec
users_by_name users = from_entries (map (λ u. (u.user, u)) users)

-- The records of files by full name.
abbrev pub by_name : List UserRec → List FileRec → FinMap full_cmp FileRec
by_name users files = from_entries (map (λ r. (full_of users r, r)) files)

-- The records of files by number.
abbrev pub by_number : List FileRec → FinMap nat_cmp FileRec
by_number files = from_entries (map (λ r. (r.number, r)) files)

-- The number of the user with this name.
abbrev pub user_number : List UserRec → List ℕ → Option ℕ
user_number users name = option_map (λ u. u.number) (get (users_by_name users) name)

-- The number of the file with this full name.
abbrev pub number_of : List UserRec → List FileRec → Full → Option ℕ
number_of users files full = option_map (λ r. r.number) (get (by_name users files) full)

-- The full name of the file with this number.
abbrev pub name_of_file : List UserRec → List FileRec → ℕ → Option Full
name_of_file users files number = option_map (full_of users) (get (by_number files) number)

-- The row and the full name of the file with this number have the property, for any bytes and any next stamp.
abbrev pub ForFile : List UserRec → List FileRec → ℕ → (FileRow → Full → Type 0) → Type 0
ForFile users files number P = ForTree users files (λ t. IfSome (name_of_file users files number) (λ full. P (file_row t full) full))
