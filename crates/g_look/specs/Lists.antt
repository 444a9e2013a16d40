-- THE TEXT OF A LIST OF FILES, to the byte: a line for each file, users by number and the files of a user by full name.
use Rattle.std.specs.Prelude.{◌≡◌, ℕ, List, [], ◌∷◌, ◌++◌, map, filter, length, All, Contains, Bool, true, false, Option, Some, None, IfSome, codes}
use Rattle.std.specs.List.{flat_map}
use Rattle.std.specs.FinMap.{entries, from_entries}
use Rattle.g_name.specs.declared.full.Full.{Full}
use Rattle.g_name.specs.Order.{full_cmp, same_text}
use Rattle.g_entry.specs.declared.file_rec.FileRec.{FileRec}
use Rattle.g_entry.specs.declared.user_rec.UserRec.{UserRec}
use Rattle.g_dirs.specs.Directory.{Directory}
use Rattle.g_dirs.specs.Image.{StandsFor}
use Rattle.g_tree.specs.Records.{full_of}
use Rattle.g_plain.specs.declared.faults.StoreFault.{StoreFault}
use Rattle.g_plain.specs.declared.faults.StoreFault.TheVariants.{NoDump, LostDirectory, LostCopy}
use Rattle.g_incr.specs.Layout.{Dump}
use Rattle.g_lines.specs.Lines.{ended, text_of}
use Rattle.g_monitor.specs.Refusals.{fault_line}
use Rattle.g_store_meaning.specs.Meaning.{DumpedDirectory, files_in}
use Rattle.g_restore.specs.Losses.{AreApart, HasPlace, IsFirstLost, IsLostDirectory}
use Rattle.g_look.specs.FileLines.{disc_file_line, dumped_file_line}
use Rattle.g_look.specs.Gaps.{NamesMissing}
use Rattle.g_look.specs.Text.{told}

-- The files with their full names, in order of these.
abbrev pub by_full : {X : Type 0} → (X → FileRec) → List UserRec → List X → List (Full × X)
by_full rec users files = entries (from_entries {R = full_cmp} (map (λ f. (full_of users (rec f), f)) files))

-- The files of one user, with their full names, in order of these.
abbrev pub files_named : {X : Type 0} → (X → FileRec) → List UserRec → List X → List ℕ → List (Full × X)
files_named rec users files user = filter (λ e. same_text e.0.user user) (by_full rec users files)

-- THE FILES OF A DISC: the lines of a user's files.
abbrev pub user_lines : Directory → List ℕ → List (List ℕ)
user_lines d user = map (λ e. disc_file_line e.0 d.users e.1.1 e.1.0) (files_named (λ f. f.0) d.users d.files user)

-- The lines of the files of all users, or of one.
abbrev pub file_lines : Directory → Option (List ℕ) → List (List ℕ)
file_lines d None = flat_map (λ u. user_lines d u.user) d.users
file_lines d (Some user) = user_lines d user

-- The lines of a list, followed by the line with their number.
abbrev pub list_lines : Directory → Option (List ℕ) → List (List ℕ)
list_lines d only = file_lines d only ++ told (codes "LISTED ") (length (file_lines d only)) ∷ []

-- One of the users has this name.
abbrev pub HasUser : List UserRec → List ℕ → Type 0
HasUser users name = (u : UserRec) × Contains users u × (u.user ≡ name)

-- THE TEXT OF A LIST of the directory that the disc represents, if it has the requested user.
pub record IsListed (blocks : List (List ℕ)) (only : Option (List ℕ)) (text : List ℕ) : Type 0 where
  pub directory : Directory
  pub stands : StandsFor blocks directory
  pub user : IfSome only (HasUser directory.users)
  pub text_is : text ≡ text_of (list_lines directory only)

-- The directory that the disc represents doesn't have the requested user.
pub record IsNobody (blocks : List (List ℕ)) (only : Option (List ℕ)) : Type 0 where
  pub directory : Directory
  pub stands : StandsFor blocks directory
  pub name : List ℕ
  pub asked : only ≡ Some name
  pub nobody : HasUser directory.users name → ⊥

-- THE FILES THAT A RESTORE GIVES: the lines of a user's files.
abbrev pub dumped_user_lines : List UserRec → List FileRec → List ℕ → List (List ℕ)
dumped_user_lines users files user = map (λ e. dumped_file_line e.0 users e.1) (files_named (λ r. r) users files user)

-- The lines of all files that a restore gives, and the dump from which it gives them.
abbrev pub dumped_lines : List UserRec → List FileRec → ℕ → List (List ℕ)
dumped_lines users files number = flat_map (λ u. dumped_user_lines users files u.user) users ++ told (codes "RESTORABLE FROM DUMP ") number ∷ []

-- The reason why a restore is refused.
abbrev pub IsRefusal : List Dump → StoreFault → Type 0
IsRefusal dumps NoDump = dumps ≡ []
IsRefusal dumps (LostDirectory user) = IsLostDirectory dumps user
IsRefusal dumps (LostCopy full serial) = IsFirstLost dumps full serial
IsRefusal dumps fault = ⊥

-- The line of a refusal.
abbrev pub refused_text : StoreFault → List ℕ
refused_text fault = ended (codes "REFUSED " ++ fault_line fault)

-- The line of a missing dump, if one is missing.
abbrev pub missing_text : Option ℕ → List ℕ
missing_text None = []
missing_text (Some n) = told (codes "DUMP ") n ++ codes " MISSING\n"

-- THE TEXT OF A LOOK AT WHAT CAN BE RESTORED from these completed dumps: the files of the dumped directory, whose bytes are all held, and the dump
-- that is missing; or the refusal, which is the right one if no two dumps have the same number.
abbrev pub IsRestorable : List Dump → Bool → Option ℕ → List ℕ → Type 0
IsRestorable dumps true missing text =
    (t : DumpedDirectory dumps) × All (HasPlace dumps) (files_in t) × NamesMissing dumps missing
    × (text ≡ text_of (dumped_lines t.last.users (files_in t) t.last.number) ++ missing_text missing)
IsRestorable dumps false missing text = (fault : StoreFault) × (AreApart dumps → IsRefusal dumps fault) × (text ≡ refused_text fault)
