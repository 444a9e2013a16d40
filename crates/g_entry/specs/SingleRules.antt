-- The rules that concern one user or one file.
use Rattle.std.specs.Prelude.{◌≡◌, ℕ, ◌<◌, ◌≤◌, List, All, None, Some, slice_get, codes}
use Rattle.g_entry.specs.declared.file_rec.FileRec.{FileRec}
use Rattle.g_entry.specs.declared.user_rec.UserRec.{UserRec}

-- User 0 is MASTER, user 1 is MACROS, and both have superior 0; every other user's superior precedes it.
pub record StandsRightly (i : ℕ) (u : UserRec) : Type 0 where
  pub master : i ≡ 0 → (u.user ≡ codes "MASTER") × (u.superior ≡ 0)
  pub macros : i ≡ 1 → (u.user ≡ codes "MACROS") × (u.superior ≡ 0)
  pub behind : 2 ≤ i → u.superior < i

-- The user has its position as its number, and the name or superior that this position requires.
pub record KeepsPlace (i : ℕ) (u : UserRec) : Type 0 where
  pub number : u.number ≡ i
  pub stands : StandsRightly i u

-- Each user is at its position.
pub record KeepPlaces (users : List UserRec) : Type 0 where
  pub each : (i : ℕ) (u : UserRec) → slice_get users i ≡ Some u → KeepsPlace i u

-- The rules that concern one file, in a directory of that many users.
pub record KeepsAlone (users : ℕ) (r : FileRec) : Type 0 where
  pub owner : r.owner < users
  pub trapped : All (λ pair. pair.0 < users) r.traps.others
  pub dated : 1 ≤ r.stamp
  pub empty : r.len ≡ 0 → r.tape ≡ None
