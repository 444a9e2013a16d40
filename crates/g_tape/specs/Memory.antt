-- A rack in memory: what it holds besides the fields of every rack, and exactly when and how its calls fail.
use Rattle.std.specs.Prelude.{◌≡◌, ℕ, ◌↔◌, true, List, [], Contains, map, Some, None, is_some, Result, Err}
use Rattle.g_base.specs.Counts.{one_more}
use Rattle.g_base.specs.Fuse.{never}
use Rattle.g_tape.specs.declared.fault.TapeFault.{TapeFault}
use Rattle.g_tape.specs.declared.fault.TapeFault.TheVariants.{ReadFailed, WriteFailed}
use Rattle.g_tape.specs.declared.leave.TapeLeave.{TapeLeave}
use Rattle.g_tape.specs.declared.leave.TapeLeave.TheVariants.{Old}
use Rattle.g_tape.specs.declared.memory.MemoryTapes.{MemoryTapes}
use Rattle.g_tape.specs.Leave.{remains_of}
use Rattle.std.specs.List.Sorted.{IsPermutation}
use Rattle.g_tape.specs.Reel.{left_by, empty_reel_of}
use Rattle.g_tape.specs.Durable.{SecuresDurably, WritesDurably}
use Rattle.g_tape.specs.Rack.{Rack, reel, with_reel, refuses_read, refuses_write, Reading, Writing, Securing}

-- A rack, what its failing writes leave, the numbers of the reads that fail, the number of reads so far, and the serials of
-- the reels whose `secure` fails.
pub record Memory : Type 0 where
  pub rack : Rack
  pub leave : TapeLeave
  pub fail : List ℕ
  pub reads : ℕ
  pub insecure : List ℕ

-- The rack of a rack in memory, which makes each write durable at once.
abbrev pub rack_of : MemoryTapes → Rack
rack_of m = record { reels = m.reels.items; read_faults = m.read_faults; write_faults = m.write_faults; fuse = m.fuse; arms = m.arms; risks = [] }

-- A rack in memory, as contracts see it.
abbrev pub memory_of : MemoryTapes → Memory
memory_of m = record { rack = rack_of m; leave = m.leave; fail = m.fail.items; reads = m.reads; insecure = m.insecure.items }

-- The read fails if and only if it isn't refused and its number, counted from 1 over all reads, is in the list.
pub record MemoryReads (s k : ℕ) (old : Memory) (result : Result (Unit {0}) TapeFault) (into : List ℕ) (new : Memory) : Type 0 where
  pub reading : Reading s k old.rack result into new.rack
  pub fails : (result ≡ Err ReadFailed) ↔ ((refuses_read k (reel s old.rack.reels) ≡ None) × Contains old.fail (one_more old.reads))
  pub others : new ≡ record old { rack = new.rack; reads = one_more old.reads }

-- The write fails if and only if it isn't refused and the fuse is 1. It then leaves exactly what was set.
pub record MemoryWrites (s k : ℕ) (block : List ℕ) (old : Memory) (result : Result (Unit {0}) TapeFault) (new : Memory) : Type 0 where
  pub writing : Writing s k block old.rack result new.rack
  pub durable : WritesDurably s k block old.rack result new.rack
  pub fails : (result ≡ Err WriteFailed) ↔ ((refuses_write k (reel s old.rack.reels) ≡ None) × (old.rack.fuse ≡ Some 1))
  pub left : result ≡ Err WriteFailed → new.rack.reels ≡ with_reel s (left_by (remains_of old.leave block) k) old.rack.reels
  pub others : new ≡ record old { rack = new.rack }

-- Securing fails if and only if the rack has the reel and its serial is in the list.
pub record MemorySecures (s : ℕ) (old : Memory) (result : Result (Unit {0}) TapeFault) (new : Memory) : Type 0 where
  pub securing : Securing s old.rack result new.rack
  pub durable : SecuresDurably s old.rack result new.rack
  pub fails : (result ≡ Err ReadFailed) ↔ ((is_some (reel s old.rack.reels) ≡ true) × Contains old.insecure s)
  pub others : new ≡ record old { rack = new.rack }

-- A rack of empty, unmounted, durable reels with these serials and capacities, on which no call was made and for which no
-- failure was set.
pub record IsEmptyRack (labels : List (ℕ × ℕ)) (memory : Memory) : Type 0 where
  pub reels : IsPermutation (map empty_reel_of labels) memory.rack.reels
  pub read_faults : memory.rack.read_faults ≡ 0
  pub write_faults : memory.rack.write_faults ≡ 0
  pub fuse : memory.rack.fuse ≡ None
  pub arms : memory.rack.arms ≡ never
  pub risks : memory.rack.risks ≡ []
  pub leave : memory.leave ≡ Old
  pub fail : memory.fail ≡ []
  pub reads : memory.reads ≡ 0
  pub insecure : memory.insecure ≡ []
