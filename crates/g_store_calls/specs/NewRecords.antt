-- The records that calls create, and the files that their paths name.
use Rattle.std.specs.Prelude.{◌≡◌, ℕ, List, [], ◌∷◌, ◌++◌, length, Contains, None}
use Rattle.g_entry.specs.declared.file_rec.FileRec.{FileRec}
use Rattle.g_entry.specs.declared.user_rec.UserRec.{UserRec}
use Rattle.g_name.specs.declared.full.Full.{Full}
use Rattle.g_name.specs.declared.path.Path.{Path}
use Rattle.g_plain.specs.declared.calls.StoreCall.{StoreCall}
use Rattle.g_plain.specs.PlainTree.{input_name}
use Rattle.g_tree.specs.Records.{ForTree, IsRecords, full_of, user_row_of}
use Rattle.g_store_calls.specs.Replies.{RefusesAs}

-- A user below the caller, added after the others.
pub record IsNewUser (users : List UserRec) (files : List FileRec) (who user : List ℕ) (space time money : ℕ) (u : UserRec) : Type 0 where
  pub number : u.number ≡ length users
  pub named : u.user ≡ user
  pub row : user_row_of users u ≡ record { superior = who; space = space; time = time; money = money }
  pub rules : IsRecords (users ++ u ∷ []) files

-- The file of this number has the name that the path denotes for input.
pub record IsFileAt (users : List UserRec) (files : List FileRec) (who : List ℕ) (path : Path) (number : ℕ) (full : Full) : Type 0 where
  pub rec : FileRec
  pub there : Contains files rec
  pub number_is : rec.number ≡ number
  pub name_is : full_of users rec ≡ full
  pub named : ForTree users files (λ t. full ≡ input_name t who path)

-- The call isn't refused, by users and files, and its path names this file for input.
pub record GrantsFile (users : List UserRec) (files : List FileRec) (who : List ℕ) (call : StoreCall) (path : Path) (number : ℕ) (full : Full) : Type 0 where
  pub next : ℕ
  pub allowed : RefusesAs users files next who call None
  pub file : IsFileAt users files who path number full
