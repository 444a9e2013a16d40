-- What writes and cuts at the end of a file of blocks do to what a power loss may leave of it.
use Rattle.std.specs.Prelude.{◌≡◌, ◌⊎◌, ℕ, ◌+◌, ◌*◌, ◌<◌, ◌≤◌, true, List, length, slice_get}
use Rattle.g_tape.specs.Risk.{Remnant}
use Rattle.g_files.specs.Durability.{Durability, HasSyncable}
use Rattle.g_files.specs.Sectors.{LeavesNoOther, LeavesSectors}
use Rattle.g_files.specs.declared.reach.Reach.{Reach}
use Rattle.g_files.specs.declared.reach.Reach.TheVariants.{Behind, There}

-- The device had the sectors x. After block k was written and cut off it may have these: each block of x below k is unchanged, and if x has
-- no block after block k, neither have these.
pub record AreGrown (k : ℕ) (x left : List (List ℕ)) : Type 0 where
  pub most : length x ≤ k + 1 → length left ≤ k + 1
  pub front : (i : ℕ) → i < k → i < length x → slice_get left i ≡ slice_get x i

-- a power loss leaves only what that allows
abbrev pub Grows : ℕ → List Remnant → List Remnant → Type 0
Grows k old new = (left : List (List ℕ)) → LeavesSectors new left → (x : List (List ℕ)) × LeavesSectors old x × AreGrown k x left

-- Block k was written at the end of a file. What was syncable before block k stays so; if `ok`, block k is syncable too.
pub record Appends (k : ℕ) (old new : Durability) (ok : Type 0) : Type 0 where
  pub grows : Grows k old.remnants new.remnants
  pub front : (j : ℕ) → j < 512 * k → old.syncable j ≡ true → new.syncable j ≡ true
  pub last : ok → HasSyncable (512 * k) 512 new
  pub sized : ok → old.sized ≡ true → new.sized ≡ true

-- The blocks from block `from` up to `to` were rewritten with their own bytes; if `ok`, they are syncable.
pub record Rewrites (from to : ℕ) (old new : Durability) (ok : Type 0) : Type 0 where
  pub no_other : LeavesNoOther old.remnants new.remnants
  pub written : ok → (j : ℕ) → 512 * from ≤ j → j < 512 * to → new.syncable j ≡ true
  pub kept : ok → (j : ℕ) → old.syncable j ≡ true → new.syncable j ≡ true
  pub sized : ok → old.sized ≡ true → new.sized ≡ true

-- this run secured the file, and no call failed since
abbrev pub IsOrderly : Reach → Type 0
IsOrderly reach = (reach ≡ Behind) ⊎ (reach ≡ There)

-- the blocks from block `from` up to `to` are syncable, and so is the length
pub record AreWritten (from to : ℕ) (d : Durability) : Type 0 where
  pub bytes : (j : ℕ) → 512 * from ≤ j → j < 512 * to → d.syncable j ≡ true
  pub sized : d.sized ≡ true
