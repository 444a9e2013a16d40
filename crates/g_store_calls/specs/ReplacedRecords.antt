-- The records that calls replace: of a user with another budget, and of a file with another name or other traps.
use Rattle.std.specs.Prelude.{◌≡◌, ℕ, ◌<◌, List, Contains, length, slice_set}
use Rattle.g_entry.specs.declared.file_rec.FileRec.{FileRec}
use Rattle.g_entry.specs.declared.user_rec.UserRec.{UserRec}
use Rattle.g_name.specs.declared.full.Full.{Full}
use Rattle.g_name.specs.declared.path.Path.{Path}
use Rattle.g_plain.specs.declared.calls.BudgetKind.{BudgetKind}
use Rattle.g_plain.specs.declared.calls.BudgetKind.TheVariants.{Space, Time, Money}
use Rattle.g_plain.specs.declared.calls.StoreCall.{StoreCall}
use Rattle.g_plain.specs.PlainTree.{input_name}
use Rattle.g_trap.specs.TrapList.{modes_of, with_modes}
use Rattle.g_tree.specs.Records.{ForTree, IsRecords, full_of, name_of}
use Rattle.g_tree.specs.State.{with_file}
use Rattle.g_laws_store.specs.Calls.{modes_by}

-- The record of a user with another budget.
abbrev pub budgeted : UserRec → BudgetKind → ℕ → UserRec
budgeted u Space amount = record u { space = amount }
budgeted u Time amount = record u { time = amount }
budgeted u Money amount = record u { money = amount }

-- It replaces the old record of that user.
pub record IsBudgeted (users : List UserRec) (files : List FileRec) (user : List ℕ) (kind : BudgetKind) (amount : ℕ) (u : UserRec) : Type 0 where
  pub old : UserRec
  pub there : Contains users old
  pub named : old.user ≡ user
  pub is : u ≡ budgeted old kind amount
  pub rules : IsRecords (slice_set users u.number u) files

-- Another record of a file, with the same version.
pub record IsSetFile (users : List UserRec) (files : List FileRec) (who : List ℕ) (path : Path) (r : FileRec) : Type 0 where
  pub old : FileRec
  pub there : Contains files old
  pub named : ForTree users files (λ t. full_of users old ≡ input_name t who path)
  pub number : r.number ≡ old.number
  pub owner : r.owner ≡ old.owner
  pub stamp : r.stamp ≡ old.stamp
  pub len : r.len ≡ old.len
  pub tape : r.tape ≡ old.tape
  pub rules : IsRecords users (with_file r files)

-- The same with another local name.
pub record IsRenamed (users : List UserRec) (files : List FileRec) (who : List ℕ) (path : Path) (to : List ℕ) (r : FileRec) (full : Full) : Type 0 where
  pub set : IsSetFile users files who path r
  pub traps : r.traps ≡ set.old.traps
  pub name_is : full_of users r ≡ full
  pub renamed : full ≡ record (full_of users set.old) { local = to }

-- The same with the modes that the call leaves to a user.
pub record IsTrapped (users : List UserRec) (files : List FileRec) (who : List ℕ) (path : Path) (user : List ℕ) (call : StoreCall) (r : FileRec) : Type 0 where
  pub set : IsSetFile users files who path r
  pub number : ℕ
  pub within : number < length users
  pub user_is : name_of users number ≡ user
  pub name_is : full_of users r ≡ full_of users set.old
  pub traps : r.traps ≡ with_modes set.old.traps set.old.owner number (modes_by call (modes_of set.old.traps set.old.owner number))
