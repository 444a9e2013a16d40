-- The file that an operator's path names. No user is the caller, so the path must name one.
use Rattle.std.specs.Prelude.{◌≡◌, ℕ, Bool, true, false, [], ◌∷◌, ◌||◌, not, List, Contains, Option, None, is_none, Result, Ok, Err}
use Rattle.g_entry.specs.declared.file_rec.FileRec.{FileRec}
use Rattle.g_entry.specs.declared.user_rec.UserRec.{UserRec}
use Rattle.g_name.specs.declared.full.Full.{Full}
use Rattle.g_name.specs.declared.path.Path.{Path}
use Rattle.g_plain.specs.declared.faults.StoreFault.{StoreFault}
use Rattle.g_plain.specs.declared.faults.StoreFault.TheVariants.{NoFile, NoUser, Stopped}
use Rattle.g_plain.specs.PlainStep.{first_fault}
use Rattle.g_plain.specs.PlainTree.{Tree, has_file, has_user, input_name}
use Rattle.g_tree.specs.Records.{ForTree, IsRecords, full_of}

-- The path names no existing user, or no file of that user.
abbrev pub naming_refuses : Tree → Path → Option StoreFault
naming_refuses tree path = first_fault (
    (is_none path.user || not (has_user tree (input_name tree [] path).user), NoUser)
    ∷ (not (has_file tree (input_name tree [] path)), NoFile)
    ∷ [])

-- The name denotes this file in every tree that the records represent.
pub record IsNamedBy (path : Path) (full : Full) (tree : Tree) : Type 0 where
  pub full_is : full ≡ input_name tree [] path
  pub granted : naming_refuses tree path ≡ None

-- The file of this number has this name, and the operator's path names it.
pub record IsNamedFile (users : List UserRec) (files : List FileRec) (path : Path) (number : ℕ) (full : Full) : Type 0 where
  pub rules : IsRecords users files
  pub rec : FileRec
  pub there : Contains files rec
  pub number_is : rec.number ≡ number
  pub name_is : full_of users rec ≡ full
  pub named : ForTree users files (IsNamedBy path full)

-- Whether the answer is `Stopped`.
abbrev pub stops : Result (Unit {0}) StoreFault → Bool
stops (Err Stopped) = true
stops answer = false

-- The answer of the filestore, with the name of its file.
abbrev pub named_answer : Full → Result (Unit {0}) StoreFault → Result Full StoreFault
named_answer full (Ok u) = Ok full
named_answer full (Err fault) = Err fault
