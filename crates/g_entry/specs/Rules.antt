-- The rules that the users and files of a directory satisfy together.
use Rattle.std.specs.Prelude.{◌≡◌, ◌≢◌, ℕ, ◌<◌, ◌≤◌, List, length, All, AllPairs, None, Some, slice_get, codes}
use Rattle.g_entry.specs.declared.user_rec.UserRec.{UserRec}
use Rattle.g_entry.specs.declared.file_rec.FileRec.{FileRec}

-- The user has this name, and user 0 as superior.
pub record IsFirst (name : List ℕ) (u : UserRec) : Type 0 where
  pub user : u.user ≡ name
  pub superior : u.superior ≡ 0

-- There are 2 to 63 users with distinct names. Each has its position as its number; MASTER and MACROS are the first
-- two; a superior precedes its subjects.
pub record AreUsers (users : List UserRec) : Type 0 where
  pub both : 2 ≤ length users
  pub few : length users ≤ 63
  pub numbered : (i : ℕ) (u : UserRec) → slice_get users i ≡ Some u → u.number ≡ i
  pub master : (u : UserRec) → slice_get users 0 ≡ Some u → IsFirst (codes "MASTER") u
  pub macros : (u : UserRec) → slice_get users 1 ≡ Some u → IsFirst (codes "MACROS") u
  pub superiors : (i : ℕ) (u : UserRec) → 2 ≤ i → slice_get users i ≡ Some u → u.superior < i
  pub names : AllPairs (λ u v. u.user ≢ v.user) users

-- The files are in order of their numbers, which are distinct and below 1,024.
pub record AreNumbered (files : List FileRec) : Type 0 where
  pub rising : AllPairs (λ r s. r.number < s.number) files
  pub below : All (λ r. r.number < 1024) files

-- The two files have the same full name: owner, local name, generation and language.
pub record SameName (r s : FileRec) : Type 0 where
  pub owner : r.owner ≡ s.owner
  pub local : r.local ≡ s.local
  pub generation : r.generation ≡ s.generation
  pub lang : r.lang ≡ s.lang

-- There are at most 1,024 files. Owners and trapped users are users; no two files share a full name or a stamp; stamps
-- are at least 1; an empty file has no copy on tape.
pub record AreFiles (users : ℕ) (files : List FileRec) : Type 0 where
  pub few : length files ≤ 1024
  pub owners : All (λ r. r.owner < users) files
  pub trapped : All (λ r. All (λ pair. pair.0 < users) r.traps.others) files
  pub names : AllPairs (λ r s. SameName r s → ⊥) files
  pub stamps : AllPairs (λ r s. r.stamp ≢ s.stamp) files
  pub dated : All (λ r. 1 ≤ r.stamp) files
  pub empty : All (λ r. r.len ≡ 0 → r.tape ≡ None) files

-- The stamp of each file is less than that of the next version.
abbrev pub StampsBelow : ℕ → List FileRec → Type 0
StampsBelow next files = All (λ r. r.stamp < next) files
