-- RULE 13, A MISSING DUMP. A dump takes the number after the last completed one, and a dump that wasn't completed leaves its number to the next, so
-- completed dumps have no gap in their numbers. PROCESS frees the reels of older dumps, but the dump that it writes holds the directories of all
-- users.
use Rattle.std.specs.Prelude.{◌≡◌, ◌≢◌, ℕ, ◌<◌, ◌≤◌, true, List, Contains, Option, Some, None}
use Rattle.g_entry.specs.declared.user_rec.UserRec.{UserRec}
use Rattle.g_incr.specs.Layout.{Dump, holds}
use Rattle.g_restore.specs.declared.dumps.Found.{Found}
use Rattle.g_look.specs.declared.broken.DumpAt.{DumpAt}

-- A dump with these users holds the directories of all of them.
abbrev pub HoldsAll : List UserRec → List ℕ → Type 0
HoldsAll users held = (u : UserRec) → Contains users u → holds held u.number ≡ true

-- No completed dump has the number, a later one exists, and none of the later ones holds the directories of all its users.
pub record IsMissing (dumps : List Dump) (n : ℕ) : Type 0 where
  pub number : 0 < n
  pub gone : (d : Dump) → Contains dumps d → d.number ≢ n
  pub later : (d : Dump) × Contains dumps d × (n < d.number)
  pub needed : (d : Dump) → Contains dumps d → n < d.number → HoldsAll d.users d.held → ⊥

-- THE MISSING DUMP THAT IS NAMED has the greatest number; none is named if and only if none is missing.
abbrev pub NamesMissing : List Dump → Option ℕ → Type 0
NamesMissing dumps None = (n : ℕ) → IsMissing dumps n → ⊥
NamesMissing dumps (Some n) = IsMissing dumps n × ((m : ℕ) → IsMissing dumps m → m ≤ n)

-- The greatest number of a dump in memory that holds the directories of all its users, or 0.
pub record IsNewestWhole (found : List Found) (n : ℕ) : Type 0 where
  pub most : (f : Found) → Contains found f → HoldsAll f.dir.users.items f.dir.held.items → f.dir.note.number ≤ n
  pub there : 0 < n → (f : Found) × Contains found f × HoldsAll f.dir.users.items f.dir.held.items × (f.dir.note.number ≡ n)

-- No dump has this number, which is above `from` and below the number of some dump.
pub record IsGap (dumps : List DumpAt) (from n : ℕ) : Type 0 where
  pub above : from < n
  pub later : (a : DumpAt) × Contains dumps a × (n < a.number)
  pub gone : (a : DumpAt) → Contains dumps a → a.number ≢ n

-- The greatest such number, or none if there is none.
abbrev pub IsNewestGap : List DumpAt → ℕ → Option ℕ → Type 0
IsNewestGap dumps from None = (n : ℕ) → IsGap dumps from n → ⊥
IsNewestGap dumps from (Some n) = IsGap dumps from n × ((m : ℕ) → IsGap dumps from m → m ≤ n)
