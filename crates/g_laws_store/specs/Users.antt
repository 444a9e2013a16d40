-- The users who are kept and touched after a change are those of the step; and a new version changes no text of a dump.
use Rattle.std.specs.Prelude.{◌≡◌, ℕ, ◌≤◌, List, All, Contains}
use Rattle.std.specs.FinMap.{insert, remove}
use Rattle.g_entry.specs.declared.user_rec.UserRec.{UserRec}
use Rattle.g_disc_contents.specs.Contents.{with_number}
use Rattle.g_incr.specs.Layout.{Dump}
use Rattle.g_store_meaning.specs.Laws.{with_text}
use Rattle.g_store_meaning.specs.Meaning.{DumpedDirectory}
use Rattle.g_store_meaning.specs.Reading.{dumped_of, names_of, users_in, users_not_in}

-- The user of this number has this name, and no other user has it.
abbrev pub IsNamed : ℕ → List ℕ → UserRec → Type 0
IsNamed number name u = (u.number ≡ number → u.user ≡ name) × (u.user ≡ name → u.number ≡ number)

-- A changed user is no longer among the kept ones, and is among the touched ones, by name.
pub record UsersGoByChange : Type 0 where
  -- a changed user is no longer kept
  pub kept : (users : List UserRec) (changed : List ℕ) (u : UserRec) → All (IsNamed u.number u.user) users
      → names_of (users_not_in (with_number u.number changed) users) ≡ remove (names_of (users_not_in changed users)) u.user
  -- and is touched
  pub touched : (users : List UserRec) (touched : List ℕ) (u : UserRec) → Contains users u → All (IsNamed u.number u.user) users
      → names_of (users_in (with_number u.number touched) users) ≡ insert (names_of (users_in touched users)) u.user tt

-- A new text for a stamp that no dump has doesn't change a dumped tree.
abbrev pub DumpedTextsStay : Type 0
DumpedTextsStay = (dumps : List Dump) (t : DumpedDirectory dumps) (text : ℕ → List ℕ) (next : ℕ) (bytes : List ℕ) → t.last.next ≤ next
    → dumped_of (with_text next bytes text) t ≡ dumped_of text t
