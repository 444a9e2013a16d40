-- A disc in memory: what it has besides the state of every disc, and exactly when and how its calls fail.
use Rattle.std.specs.Prelude.{◌≡◌, ℕ, ◌↔◌, Bool, true, false, List, [], ◌++◌, take, drop, replicate, Contains, Some, None, option_map, Result, IsErr, OnErr, slice_index_or, slice_set}
use Rattle.g_base.specs.Counts.{one_more}
use Rattle.g_base.specs.Fuse.{never}
use Rattle.g_disc.specs.Disc.{DiscState, Reads, Secures, Writes}
use Rattle.g_disc.specs.declared.memory.Leave.{Leave}
use Rattle.g_disc.specs.declared.memory.Leave.TheVariants.{Old, Whole, Half, These}

-- a disc, what its failing writes leave, the numbers of the reads that fail, how many reads there were, and whether it can't be made durable
pub record Memory : Type 0 where
  pub disc : DiscState
  pub leave : Leave
  pub fail : List ℕ
  pub reads : ℕ
  pub insecure : Bool

-- what a failing write of `new` leaves of the block `old`
abbrev pub left_by : Leave → List ℕ → List ℕ → List ℕ
left_by Old old new = old
left_by Whole old new = new
left_by Half old new = take 256 new ++ drop 256 old
left_by (These bytes) old new = bytes

-- a new disc of n blocks of zeros
abbrev pub blank : ℕ → Memory
blank n = record {
  disc = record { held = Some (replicate n (replicate 512 0)); size = n; read_faults = 0; write_faults = 0; writes = 0; fuse = None; arms = never; volatile = []; dropped = [] };
  leave = Old;
  fail = [];
  reads = 0;
  insecure = false;
}

-- The read fails exactly if its number, counted from 1, is named.
pub record MemoryReads {T E : Type 0} (k : ℕ) (into : List ℕ) (before after : Memory) (result : Result T E) : Type 0 where
  pub disc : Reads k into before.disc after.disc result
  pub fails : IsErr result ↔ Contains before.fail (one_more before.reads)
  pub reads : after.reads ≡ one_more before.reads
  pub leave : after.leave ≡ before.leave
  pub fail : after.fail ≡ before.fail
  pub insecure : after.insecure ≡ before.insecure

-- The write fails exactly if the fuse is 1, and leaves exactly what was set.
pub record MemoryWrites {T E : Type 0} (k : ℕ) (from : List ℕ) (before after : Memory) (result : Result T E) : Type 0 where
  pub disc : Writes k from before.disc after.disc result
  pub fails : IsErr result ↔ (before.disc.fuse ≡ Some 1)
  pub left : OnErr result (after.disc.held ≡ option_map (λ blocks. slice_set blocks k (left_by before.leave (slice_index_or blocks k []) from)) before.disc.held)
  pub reads : after.reads ≡ before.reads
  pub leave : after.leave ≡ before.leave
  pub fail : after.fail ≡ before.fail
  pub insecure : after.insecure ≡ before.insecure

-- Securing the disc fails exactly if that was set.
pub record MemorySecures {T E : Type 0} (before after : Memory) (result : Result T E) : Type 0 where
  pub disc : Secures before.disc after.disc result
  pub fails : IsErr result ↔ (before.insecure ≡ true)
  pub others : after ≡ record before { disc = after.disc }
