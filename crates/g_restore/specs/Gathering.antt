-- The steps of gathering: the dump of greatest number among those in memory, and the directories of users, one after
-- another.
use Rattle.std.specs.Prelude.{◌≡◌, ℕ, ◌+◌, ◌<◌, ◌≤◌, ◌==◌, Bool, true, nat_lt, List, [], ◌∷◌, ◌++◌, length, take, slice_get, get_or, Option, Some, None, MatchOption, if◌then◌else◌}
use Rattle.g_entry.specs.declared.file_rec.FileRec.{FileRec}
use Rattle.g_entry.specs.declared.user_rec.UserRec.{UserRec}
use Rattle.g_entry.specs.Rules.{AreFiles, StampsBelow}
use Rattle.g_incr.specs.Layout.{Dump, holds}
use Rattle.g_incr.specs.Plan.{numbered_from, with_number}
use Rattle.g_store_meaning.specs.Meaning.{Gathers, HasDirectory, files_of}
use Rattle.g_restore.specs.declared.dumps.Found.{Found}
use Rattle.g_restore.specs.KnownDumps.{AreKnown}
use Rattle.g_restore.specs.Losses.{AreApart}

-- The dump holds the user's directory; without a user, every dump counts.
abbrev pub holds_directory : Option ℕ → Found → Bool
holds_directory None f = true
holds_directory (Some user) f = holds f.dir.held.items user

-- The number of the dump.
abbrev pub number_in : Found → ℕ
number_in f = f.dir.note.number

-- The better of two dumps, each given by position and number: the one of greater number, or the first if they are
-- equal.
abbrev pub newer_of : Option (ℕ × ℕ) → ℕ → ℕ → Option (ℕ × ℕ)
newer_of None i number = Some (i, number)
newer_of (Some b) i number = if nat_lt b.1 number then Some (i, number) else Some b

-- The better of two dumps, if the second one holds the user's directory; otherwise the first.
abbrev pub newer_holder : Option ℕ → Option (ℕ × ℕ) → ℕ → Found → Option (ℕ × ℕ)
newer_holder user best i f = if holds_directory user f then newer_of best i (number_in f) else best

-- The best of the first n dumps: the one of greatest number among those that hold the user's directory, and its number.
pub record IsBest (user : Option ℕ) (found : List Found) (n : ℕ) (b : ℕ × ℕ) : Type 0 where
  pub within : b.0 < n
  pub number_is : (d : Found) → number_in (get_or found b.0 d) ≡ b.1
  pub passes_is : (d : Found) → holds_directory user (get_or found b.0 d) ≡ true
  pub most : (k : ℕ) (d : Found) → k < n → holds_directory user (get_or found k d) ≡ true → number_in (get_or found k d) ≤ b.1

-- None of the first n dumps holds the user's directory.
abbrev pub NonePasses : Option ℕ → List Found → ℕ → Type 0
NonePasses user found n = (k : ℕ) (d : Found) → k < n → holds_directory user (get_or found k d) ≡ true → ⊥

-- The best of the first n dumps, if one of them holds the user's directory.
abbrev pub IsBestOf : Option ℕ → List Found → ℕ → Option (ℕ × ℕ) → Type 0
IsBestOf user found n best = MatchOption best (NonePasses user found n) (IsBest user found n)

-- The dump has no more files than a directory may have.
abbrev pub HasFew : Found → Type 0
HasFew f = length f.dir.files.items ≤ 1024

-- The files of a user, appended to others and numbered consecutively after them.
abbrev pub behind : List FileRec → ℕ → List FileRec → List FileRec
behind old user files = old ++ numbered_from (length old) (files_of user files)

-- The files after one more file of the user was appended.
abbrev pub added : List FileRec → ℕ → FileRec → List FileRec
added old user r = if r.owner == user then old ++ with_number (length old) r ∷ [] else old

-- The directory of the user, as the newest dump that holds it has it, was appended to the files.
abbrev pub IsAdded : List Found → ℕ → List FileRec → List FileRec → Type 0
IsAdded found user old new = (dumps : List Dump) → AreKnown found dumps → (d : Dump) × HasDirectory dumps user d × (new ≡ behind old user d.files)

-- No dump holds the user's directory.
abbrev pub IsHeldNowhere : List Found → ℕ → Type 0
IsHeldNowhere found user = (dumps : List Dump) → AreKnown found dumps → (d : Dump) → HasDirectory dumps user d → ⊥

-- The files satisfy the rules of files together, in a directory with that many users and this next stamp.
pub record GoWith (users next : ℕ) (files : List FileRec) : Type 0 where
  pub rules : AreFiles users files
  pub dated : StampsBelow next files

-- The user's directory was appended, and the files satisfy the rules together.
pub record IsTaken (found : List Found) (users next user : ℕ) (old new : List FileRec) : Type 0 where
  pub go : GoWith users next new
  pub is : IsAdded found user old new

-- No dump holds the user's directory, or appending it to the files breaks the rules.
abbrev pub IsBadWith : List Found → ℕ → ℕ → ℕ → List FileRec → Type 0
IsBadWith found users next user old = (dumps : List Dump) → AreKnown found dumps → AreApart dumps → (d : Dump) → HasDirectory dumps user d
    → GoWith users next (behind old user d.files) → ⊥

-- The directories of these users, one after another, numbered from 0. They may break the rules.
abbrev pub ArePut : List Found → List UserRec → List FileRec → Type 0
ArePut found users files = (dumps : List Dump) → AreKnown found dumps → (gathered : List FileRec) × Gathers dumps users gathered × (files ≡ numbered_from 0 gathered)

-- The same for directories that satisfy the rules together.
pub record AreGathered (dumps : List Dump) (all next : ℕ) (users : List UserRec) (files : List FileRec) : Type 0 where
  pub gathered : List FileRec
  pub gathers : Gathers dumps users gathered
  pub numbered : files ≡ numbered_from 0 gathered
  pub go : GoWith all next files

-- The name of the first user whose directory is lost, or breaks the rules together with those of the users before.
pub record IsFirstBad (dumps : List Dump) (users : List UserRec) (next : ℕ) (name : List ℕ) : Type 0 where
  pub number : ℕ
  pub user : UserRec
  pub there : slice_get users number ≡ Some user
  pub bad : (files : List FileRec) → AreGathered dumps (length users) next (take (number + 1) users) files → ⊥
  pub least : (lower : ℕ) → lower < number → (files : List FileRec) × AreGathered dumps (length users) next (take (lower + 1) users) files
  pub name_is : user.user ≡ name
