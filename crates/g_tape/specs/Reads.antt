-- Calls that only read a rack, and which blocks they read.
use Rattle.std.specs.Prelude.{◌≡◌, ℕ, ◌≤◌, Bool, true, List, [], Option, Some, None, map, slice_index, option_map}
use Rattle.std.specs.Option.{ForSome}
use Rattle.g_base.specs.Counts.{one_more}
use Rattle.g_tape.specs.Reel.{Reel}
use Rattle.g_tape.specs.Rack.{Rack, reel}
use Rattle.g_tape.specs.Risk.{Leaves, risk, syncs}

-- The reel, ignoring how often its blocks were read.
abbrev pub unread : Reel → Reel
unread r = record r { times_read = option_map (λ _. []) r.times_read }

-- The blocks of a reel, if there is one and it exposes them.
abbrev pub blocks_in : Option Reel → Option (List (List ℕ))
blocks_in None = None
blocks_in (Some r) = r.blocks

-- The read counts of a reel's blocks, if there is one and it exposes them.
abbrev pub times_in : Option Reel → Option (List ℕ)
times_in None = None
times_in (Some r) = r.times_read

-- The read count of block k; 0 if read counts aren't exposed.
abbrev pub count_at : ℕ → Option (List ℕ) → ℕ
count_at k None = 0
count_at k (Some times) = slice_index times k

-- The blocks of the reel with this serial, if there is one and it exposes them.
abbrev pub blocks_of : ℕ → Rack → Option (List (List ℕ))
blocks_of s rack = blocks_in (reel s rack.reels)

-- How often block k of a reel was read; 0 if that isn't exposed.
abbrev pub time_of : ℕ → ℕ → Rack → ℕ
time_of s k rack = count_at k (times_in (reel s rack.reels))

-- A power loss may leave these blocks of the reel with this serial. (If its blocks aren't observable, it may leave anything.)
abbrev pub MayLeave : ℕ → Rack → List (List ℕ) → Type 0
MayLeave s rack left = ForSome (blocks_of s rack) (λ blocks. Leaves (risk s rack.risks) blocks left)

-- whether the device still has what isn't durable of the reel
abbrev pub is_syncable : ℕ → Rack → Bool
is_syncable s rack = syncs (risk s rack.risks)

-- A power loss may leave nothing that it couldn't have left before, and nothing became unsyncable.
pub record LeavesNoMore (old new : Rack) : Type 0 where
  pub leaves : (s : ℕ) (left : List (List ℕ)) → MayLeave s new left → MayLeave s old left
  pub syncable : (s : ℕ) → is_syncable s old ≡ true → is_syncable s new ≡ true

-- Only reads happened, and some of them may have failed.
pub record OnlyReads (old new : Rack) : Type 0 where
  pub reels : map unread new.reels ≡ map unread old.reels
  pub write_faults : new.write_faults ≡ old.write_faults
  pub fuse : new.fuse ≡ old.fuse
  pub arms : new.arms ≡ old.arms
  pub read_faults : old.read_faults ≤ new.read_faults
  pub times : (s k : ℕ) → time_of s k old ≤ time_of s k new
  pub durable : LeavesNoMore old new

-- Block k of the reel was read at least once in between, if read counts are exposed.
pub record HasRead (s k : ℕ) (old new : Rack) : Type 0 where
  pub more : ForSome (times_in (reel s old.reels)) (λ times. one_more (time_of s k old) ≤ time_of s k new)
