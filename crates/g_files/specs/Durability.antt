-- Which bytes of a file survive a power loss.
use Rattle.std.specs.Prelude.{◌≡◌, ◌≢◌, ◌⊎◌, ℕ, ◌+◌, ◌*◌, ◌/◌, ◌<◌, ◌≤◌, Bool, true, not, ◌&&◌, ◌||◌, nat_le, nat_lt, List, [], ◌∷◌, length, slice_get, Option, Some, OnErr, OnOk, Result}
use Rattle.std.specs.Option.{ForSome}
use Rattle.g_tape.specs.Risk.{Remnant}
use Rattle.g_files.specs.Bytes.{part, sectors_of}
use Rattle.g_files.specs.Sectors.{HasSectors, LeavesNoOther, LeavesResized, LeavesSectors, LeavesWritten}

-- For each byte of a file: whether a power loss preserves it as reads see it, and whether it would after a sync that succeeds.
-- A byte that was written before a sync that failed, and not since, is neither: the system may consider it written. If the length of the
-- file changes: what a power loss may leave of its whole sectors, and whether a sync that succeeds makes the length durable.
pub record Durability : Type 0 where
  pub durable : ℕ → Bool
  pub syncable : ℕ → Bool
  pub remnants : List Remnant
  pub sized : Bool

-- a file whose bytes aren't observable: all are durable at once, and no remnant is listed
abbrev pub all_durable : Durability
all_durable = record { durable = λ j. true; syncable = λ j. true; remnants = []; sized = true }

-- exactly these sectors
abbrev pub remnant_of : List (List ℕ) → Remnant
remnant_of sectors = record { front = sectors; longest = length sectors }

-- a file of these bytes, all of which are durable at once
abbrev pub stored : List ℕ → Durability
stored bytes = record all_durable { remnants = remnant_of (sectors_of bytes) ∷ [] }

-- durable bytes stay durable
abbrev pub StayDurable : Durability → Durability → Type 0
StayDurable old new = (j : ℕ) → old.durable j ≡ true → new.durable j ≡ true

-- syncable bytes stay syncable
abbrev pub StaySyncable : Durability → Durability → Type 0
StaySyncable old new = (j : ℕ) → old.syncable j ≡ true → new.syncable j ≡ true

-- a sync has nothing to do for a durable byte
abbrev pub DurableAreSyncable : Durability → Type 0
DurableAreSyncable d = (j : ℕ) → d.durable j ≡ true → d.syncable j ≡ true

-- a sync has nothing to do for any byte
abbrev pub AreSynced : Durability → Type 0
AreSynced d = (j : ℕ) → d.syncable j ≡ true → d.durable j ≡ true

-- the n bytes from position `at` on are durable
abbrev pub HasDurable : ℕ → ℕ → Durability → Type 0
HasDurable at n d = (i : ℕ) → i < n → d.durable (at + i) ≡ true

-- the n bytes from position `at` on are syncable
abbrev pub HasSyncable : ℕ → ℕ → Durability → Type 0
HasSyncable at n d = (i : ℕ) → i < n → d.syncable (at + i) ≡ true

-- byte j is in no sector of 512 bytes that has one of the n bytes from position `at` on
abbrev pub IsApart : ℕ → ℕ → ℕ → Type 0
IsApart at n j = (i : ℕ) → i < n → j / 512 ≢ (at + i) / 512

-- What a write of `from` at position `at` does to bytes: it affects no other sector, and no durable byte if the range has these bytes
-- already; then a power loss leaves nothing that it couldn't leave before. If it succeeds, no byte ceases to be syncable.
pub record WritesDurability {T E : Type 0} (at : ℕ) (from : List ℕ) (content : Option (List ℕ)) (old new : Durability) (result : Result T E) : Type 0 where
  pub apart : (j : ℕ) → IsApart at (length from) j → old.durable j ≡ true → new.durable j ≡ true
  pub syncable_apart : (j : ℕ) → IsApart at (length from) j → old.syncable j ≡ true → new.syncable j ≡ true
  pub unchanged : ForSome content (λ bytes. from ≡ part at (length from) bytes) → StayDurable old new
  pub kept : OnOk result (StaySyncable old new)
  pub sound : DurableAreSyncable old → DurableAreSyncable new
  pub sectors : (left : List (List ℕ)) → LeavesSectors new.remnants left → LeavesWritten at (length from) old.remnants left
  pub no_other : ForSome content (λ bytes. from ≡ part at (length from) bytes) → LeavesNoOther old.remnants new.remnants
  pub sized : OnOk result (old.sized ≡ true → new.sized ≡ true)

-- What setting the length to n bytes does: no byte before it ceases to be durable or syncable. The device has the new length or the old
-- one; and if the number of whole sectors didn't change, a power loss leaves nothing that it couldn't leave before.
pub record SetsLength {T E : Type 0} (n : ℕ) (before after : Option (List ℕ)) (old new : Durability) (result : Result T E) : Type 0 where
  pub durable : (j : ℕ) → j < n → old.durable j ≡ true → new.durable j ≡ true
  pub syncable : (j : ℕ) → j < n → old.syncable j ≡ true → new.syncable j ≡ true
  pub sound : DurableAreSyncable old → DurableAreSyncable new
  pub sectors : (left : List (List ℕ)) → LeavesSectors new.remnants left → LeavesSectors old.remnants left ⊎ LeavesResized n old.remnants left
  pub no_other : ForSome before (λ was. ForSome after (λ is. (s : ℕ) → HasSectors s was → HasSectors s is → LeavesNoOther old.remnants new.remnants))
  pub sized : OnOk result (new.sized ≡ true)

-- What a sync does: if it succeeds, all syncable bytes are durable. If it fails, those that aren't durable may not be syncable any more.
pub record SyncsDurability {T E : Type 0} (old new : Durability) (result : Result T E) : Type 0 where
  pub durable : StayDurable old new
  pub kept : OnOk result (StaySyncable old new)
  pub synced : OnOk result (AreSynced new)
  pub sound : DurableAreSyncable old → DurableAreSyncable new
  pub no_other : LeavesNoOther old.remnants new.remnants
  pub sized : OnOk result (old.sized ≡ true → new.sized ≡ true)

-- After a sync that succeeded, what a power loss leaves has each syncable sector as it is read, and the length of the file, if that was
-- syncable.
pub record AreSectorsSynced (bytes : List ℕ) (old new : Durability) : Type 0 where
  pub whole : old.sized ≡ true → (left : List (List ℕ)) → LeavesSectors new.remnants left → HasSectors (length left) bytes
  pub each : (i : ℕ) → HasSyncable (512 * i) 512 old → 512 * i + 512 ≤ length bytes → (left : List (List ℕ)) → LeavesSectors new.remnants left
      → i < length left → slice_get left i ≡ Some (part (512 * i) 512 bytes)

-- BYTES THAT ARE NOT WRITTEN TO THE FILE YET

-- whether position j is one of the n positions from `at` on
abbrev pub is_within : ℕ → ℕ → ℕ → Bool
is_within at n j = nat_le at j && nat_lt j (at + n)

-- what reads see of a file, with n bytes from position `at` on that are only in memory: these aren't durable, and become so if they are
-- written to the file and a sync succeeds
abbrev pub overlaid : ℕ → ℕ → Durability → Durability
overlaid at n d = record d { durable = λ j. d.durable j && not (is_within at n j); syncable = λ j. is_within at n j || d.syncable j }

-- BLOCKS, OF 512 BYTES EACH

-- What a call does that changes no byte that reads see: durable blocks stay durable. If it succeeds, no byte ceases to be syncable.
pub record KeepsDurability {T E : Type 0} (old new : Durability) (result : Result T E) : Type 0 where
  pub durable : (k : ℕ) → HasDurable (512 * k) 512 old → HasDurable (512 * k) 512 new
  pub kept : OnOk result (StaySyncable old new)

-- a sync succeeded: every syncable block is durable, except perhaps the gate
abbrev pub HasSynced : Durability → Durability → Type 0
HasSynced old new = (k : ℕ) → k ≢ 0 → HasSyncable (512 * k) 512 old → HasDurable (512 * k) 512 new

-- A write of the gate failed: the bytes are unchanged, and the gate is as durable as it was; or a sync of all other blocks succeeded before
-- it.
abbrev pub GateFailed : Option (List ℕ) → Option (List ℕ) → Durability → Durability → Type 0
GateFailed before after old new = ((after ≡ before) × (HasDurable 0 512 old → HasDurable 0 512 new)) ⊎ HasSynced old new

-- What a write of `from` at the start of block k does: all other durable blocks stay durable. A write of the gate, block 0, is preceded and
-- followed by a sync.
pub record WritesBlock {T E : Type 0} (k : ℕ) (from : List ℕ) (before after : Option (List ℕ)) (old new : Durability) (result : Result T E) : Type 0 where
  pub durable : (j : ℕ) → j ≢ k → HasDurable (512 * j) 512 old → HasDurable (512 * j) 512 new
  pub kept : OnOk result (StaySyncable old new)
  pub here : OnOk result (HasSyncable (512 * k) (length from) new)
  pub gate : k ≡ 0 → OnOk result (HasSynced old new × HasDurable 0 512 new)
  pub gate_failed : k ≡ 0 → OnErr result (GateFailed before after old new)

-- a file whose gate is durable, and for which a sync has nothing to do
pub record IsSettled (d : Durability) : Type 0 where
  pub synced : AreSynced d
  pub gate : HasDurable 0 512 d
