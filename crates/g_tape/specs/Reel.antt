-- A reel, and how calls change it.
use Rattle.std.specs.Prelude.{◌≡◌, ℕ, ◌+◌, ◌≤◌, List, [], ◌∷◌, ◌++◌, Bool, false, Option, Some, None, length, take, replicate, All, slice_index, slice_set, option_map}
use Rattle.std.specs.Option.{ForSome}
use Rattle.g_base.specs.Block.{IsBlock}
use Rattle.g_base.specs.Counts.{one_more}

-- A reel: its serial, how many blocks it can hold and how many it holds, whether it is mounted, and, if they are
-- exposed, its blocks and how often each block was read.
pub record Reel : Type 0 where
  pub serial : ℕ
  pub capacity : ℕ
  pub len : ℕ
  pub mounted : Bool
  pub blocks : Option (List (List ℕ))
  pub times_read : Option (List ℕ)

-- The reel is within the limits. It has as many blocks as its length says, and a read count for each block that it can
-- hold.
pub record IsReel (r : Reel) : Type 0 where
  pub numbered : 1 ≤ r.serial
  pub numbered_most : r.serial ≤ 999_999
  pub sized : 2 ≤ r.capacity
  pub sized_most : r.capacity ≤ 65_536
  pub within : r.len ≤ r.capacity
  pub told : ForSome r.blocks (λ bs. length bs ≡ r.len)
  pub whole : ForSome r.blocks (λ bs. All IsBlock bs)
  pub counted : ForSome r.times_read (λ ts. length ts ≡ r.capacity)

-- The empty reel with this serial and capacity, unmounted, whose content is exposed.
abbrev pub empty_reel : ℕ → ℕ → Reel
empty_reel s n = record { serial = s; capacity = n; len = 0; mounted = false; blocks = Some []; times_read = Some (replicate n 0) }

-- An unmounted reel with this serial, capacity and number of blocks, whose content isn't exposed.
abbrev pub untold_reel : ℕ → ℕ → ℕ → Reel
untold_reel s n len = record { serial = s; capacity = n; len = len; mounted = false; blocks = None; times_read = None }

-- The empty reel with this pair of serial and capacity.
abbrev pub empty_reel_of : ℕ × ℕ → Reel
empty_reel_of label = empty_reel label.0 label.1

-- The serial and the capacity are within the limits.
pub record IsLabel (label : ℕ × ℕ) : Type 0 where
  pub numbered : 1 ≤ label.0
  pub numbered_most : label.0 ≤ 999_999
  pub sized : 2 ≤ label.1
  pub sized_most : label.1 ≤ 65_536

-- The reel, mounted or not.
abbrev pub with_mounted : Bool → Reel → Reel
with_mounted is r = record r { mounted = is }

-- The reel keeps its blocks below k and ends there.
abbrev pub cut_at : ℕ → Reel → Reel
cut_at k r = record r { len = k; blocks = option_map (take k) r.blocks }

-- The reel keeps its blocks below k and ends with this one.
abbrev pub ending : ℕ → List ℕ → Reel → Reel
ending k block r = record r { len = k + 1; blocks = option_map (λ bs. take k bs ++ block ∷ []) r.blocks }

-- Block k was read once more.
abbrev pub read_at : ℕ → Reel → Reel
read_at k r = record r { times_read = option_map (λ ts. slice_set ts k (one_more (slice_index ts k))) r.times_read }

-- What a failed write may do to a reel: nothing, truncate it, or truncate it and append a block of any bytes.
pub data Remains : Type 0 where
  Unchanged : Remains
  Shortened : Remains
  Torn : List ℕ → Remains

-- The reel after a failed write of block k that left these remains.
abbrev pub left_by : Remains → ℕ → Reel → Reel
left_by Unchanged k r = r
left_by Shortened k r = cut_at k r
left_by (Torn block) k r = ending k block r
