-- The state of a disc, and what each call does to it.
use Rattle.std.specs.Prelude.{◌≡◌, ◌≢◌, ◌⊎◌, ◌≤◌, ℕ, Bool, true, List, Option, Some, Result, OnOk, OnErr, nat_eq, not, slice_get}
use Rattle.std.specs.List.{list_any}
use Rattle.std.specs.Option.{ForSome}
use Rattle.g_base.specs.Block.{IsBlock, with_block}
use Rattle.g_base.specs.Counts.{one_more, Rose, RoseBy}
use Rattle.g_base.specs.Fuse.{Arms, BurnsByWrites, burnt}

-- A disc: its blocks, if they are observable; their number; its counts of failed reads, failed writes and writes; its fuse, and what
-- it was armed with. A power loss may change the `volatile` blocks. Of these, no sync makes the `dropped` ones durable: they were
-- written before a sync that failed, and not since.
pub record DiscState : Type 0 where
  pub held : Option (List (List ℕ))
  pub size : ℕ
  pub read_faults : ℕ
  pub write_faults : ℕ
  pub writes : ℕ
  pub fuse : Option ℕ
  pub arms : Arms
  pub volatile : List ℕ
  pub dropped : List ℕ

-- whether block k survives a power loss as reads see it
abbrev pub is_durable : DiscState → ℕ → Bool
is_durable d k = not (list_any (nat_eq k) d.volatile)

-- whether it would, after a sync that succeeds
abbrev pub is_syncable : DiscState → ℕ → Bool
is_syncable d k = not (list_any (nat_eq k) d.dropped)

-- a sync has nothing to do for a durable block
abbrev pub DurableAreSyncable : DiscState → Type 0
DurableAreSyncable d = (k : ℕ) → is_durable d k ≡ true → is_syncable d k ≡ true

-- durable blocks stay durable
abbrev pub StayDurable : DiscState → DiscState → Type 0
StayDurable before after = (j : ℕ) → is_durable before j ≡ true → is_durable after j ≡ true

-- syncable blocks stay syncable
abbrev pub StaySyncable : DiscState → DiscState → Type 0
StaySyncable before after = (j : ℕ) → is_syncable before j ≡ true → is_syncable after j ≡ true

-- a sync succeeded: every syncable block is durable, except perhaps the gate, which was written since
abbrev pub HasSynced : DiscState → DiscState → Type 0
HasSynced before after = (j : ℕ) → j ≢ 0 → is_syncable before j ≡ true → is_durable after j ≡ true

-- A write of the gate failed: the gate is unchanged, and as durable as it was; or a sync of all other blocks succeeded before it.
abbrev pub GateFailed : DiscState → DiscState → Type 0
GateFailed before after = ((after.held ≡ before.held) × (is_durable before 0 ≡ true → is_durable after 0 ≡ true)) ⊎ HasSynced before after

-- what a disc's fuse is at each moment
abbrev pub IsFused : DiscState → Type 0
IsFused d = BurnsByWrites d.writes d.arms d.fuse

-- Block k was read into `into`. Nothing but the count of read faults changes.
pub record Reads {T E : Type 0} (k : ℕ) (into : List ℕ) (before after : DiscState) (result : Result T E) : Type 0 where
  pub held : after.held ≡ before.held
  pub size : after.size ≡ before.size
  pub write_faults : after.write_faults ≡ before.write_faults
  pub writes : after.writes ≡ before.writes
  pub fuse : after.fuse ≡ before.fuse
  pub arms : after.arms ≡ before.arms
  pub volatile : after.volatile ≡ before.volatile
  pub dropped : after.dropped ≡ before.dropped
  pub block : OnOk result (ForSome before.held (λ blocks. slice_get blocks k ≡ Some into))
  pub kept : OnOk result (after.read_faults ≡ before.read_faults)
  pub rose : OnErr result (Rose before.read_faults after.read_faults)

-- Block k is `from` now, or, if the write failed, any block at all. All other blocks are unchanged, and stay durable. A write
-- burns the fuse, and fails if the fuse is 1. A write of the gate (block 0) is preceded and followed by a sync.
pub record Writes {T E : Type 0} (k : ℕ) (from : List ℕ) (before after : DiscState) (result : Result T E) : Type 0 where
  pub size : after.size ≡ before.size
  pub read_faults : after.read_faults ≡ before.read_faults
  pub writes : after.writes ≡ one_more before.writes
  pub fuse : after.fuse ≡ burnt before.fuse
  pub arms : after.arms ≡ before.arms
  pub fired : before.fuse ≡ Some 1 → OnOk result ⊥
  pub block : OnOk result (after.held ≡ with_block k from before.held)
  pub kept : OnOk result (after.write_faults ≡ before.write_faults)
  pub torn : OnErr result ((left : List ℕ) × IsBlock left × (after.held ≡ with_block k left before.held))
  pub rose : OnErr result (Rose before.write_faults after.write_faults)
  pub durable : (j : ℕ) → j ≢ k → is_durable before j ≡ true → is_durable after j ≡ true
  pub syncable : OnOk result (StaySyncable before after)
  pub here : OnOk result (is_syncable after k ≡ true)
  pub gate : k ≡ 0 → OnOk result (HasSynced before after × (is_durable after 0 ≡ true))
  pub gate_failed : k ≡ 0 → OnErr result (GateFailed before after)

-- The gate was made durable. Nothing else that a caller can observe has changed; or the device failed, which counts as a failed read.
pub record Secures {T E : Type 0} (before after : DiscState) (result : Result T E) : Type 0 where
  pub held : after.held ≡ before.held
  pub size : after.size ≡ before.size
  pub write_faults : after.write_faults ≡ before.write_faults
  pub writes : after.writes ≡ before.writes
  pub fuse : after.fuse ≡ before.fuse
  pub arms : after.arms ≡ before.arms
  pub durable : StayDurable before after
  pub syncable : OnOk result (StaySyncable before after)
  pub gate : OnOk result (is_durable after 0 ≡ true)
  pub kept : OnOk result (after.read_faults ≡ before.read_faults)
  pub rose : OnErr result (Rose before.read_faults after.read_faults)

-- a call that reads and does nothing else, and that fails only if a read failed
pub record ReadsOnly {T E : Type 0} (before after : DiscState) (result : Result T E) : Type 0 where
  pub held : after.held ≡ before.held
  pub size : after.size ≡ before.size
  pub write_faults : after.write_faults ≡ before.write_faults
  pub writes : after.writes ≡ before.writes
  pub fuse : after.fuse ≡ before.fuse
  pub arms : after.arms ≡ before.arms
  pub volatile : after.volatile ≡ before.volatile
  pub dropped : after.dropped ≡ before.dropped
  pub kept : OnOk result (after.read_faults ≡ before.read_faults)
  pub rose : OnErr result (Rose before.read_faults after.read_faults)

-- The same for a call that may fail for other reasons too: `read_fault` says that it failed because of a failed read.
pub record ReadsByCause (read_fault : Type 0) (before after : DiscState) : Type 0 where
  pub held : after.held ≡ before.held
  pub size : after.size ≡ before.size
  pub write_faults : after.write_faults ≡ before.write_faults
  pub writes : after.writes ≡ before.writes
  pub fuse : after.fuse ≡ before.fuse
  pub arms : after.arms ≡ before.arms
  pub volatile : after.volatile ≡ before.volatile
  pub dropped : after.dropped ≡ before.dropped
  pub kept : (read_fault → ⊥) → after.read_faults ≡ before.read_faults
  pub rose : read_fault → Rose before.read_faults after.read_faults

-- A call that writes and doesn't read: n blocks if it is Ok; it fails only if a write failed. The count of writes never falls.
pub record WritesOnly {T E : Type 0} (n : ℕ) (before after : DiscState) (result : Result T E) : Type 0 where
  pub size : after.size ≡ before.size
  pub read_faults : after.read_faults ≡ before.read_faults
  pub arms : after.arms ≡ before.arms
  pub writes : OnOk result (RoseBy n before.writes after.writes)
  pub later : before.writes ≤ after.writes
  pub kept : OnOk result (after.write_faults ≡ before.write_faults)
  pub rose : OnErr result (Rose before.write_faults after.write_faults)

-- A call that may read and write; `read_fault` and `stopped` say that it failed because of a failed read or a failed write. A count of
-- faults rises exactly if the call failed for that reason, the count of writes never falls, and the fuse isn't armed.
pub record Causes (read_fault stopped : Type 0) (before after : DiscState) : Type 0 where
  pub size : after.size ≡ before.size
  pub arms : after.arms ≡ before.arms
  pub later : before.writes ≤ after.writes
  pub reads_kept : (read_fault → ⊥) → after.read_faults ≡ before.read_faults
  pub reads_rose : read_fault → Rose before.read_faults after.read_faults
  pub writes_kept : (stopped → ⊥) → after.write_faults ≡ before.write_faults
  pub writes_rose : stopped → Rose before.write_faults after.write_faults
