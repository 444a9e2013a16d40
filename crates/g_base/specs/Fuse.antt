-- The fuse of a device, and what the device was armed with. A fuse is none, or a number k: the k-th next write fails.
use Rattle.std.specs.Prelude.{◌≡◌, ◌≤◌, ◌<◌, ℕ, ◌-◌, ◌^◌, List, [], ◌∷◌, ◌++◌, Option, Some, None, nat_le, nat_lt, if◌then◌else◌}
use Rattle.g_base.specs.Counts.{one_more, Rose}

-- The fuse after one write. The write that fails leaves no fuse.
abbrev pub burnt : Option ℕ → Option ℕ
burnt None = None
burnt (Some k) = if nat_le k 1 then None else Some (k - 1)

-- The fuse after n writes.
abbrev pub burnt_by : ℕ → Option ℕ → Option ℕ
burnt_by n None = None
burnt_by n (Some k) = if nat_lt n k then Some (k - n) else None

-- What a device was armed with: how often, the last number, and the device's count at that time. A disc counts writes for this, a rack
-- failed writes.
pub record Arms : Type 0 where
  pub times : ℕ
  pub number : Option ℕ
  pub since : ℕ

-- A device that was never armed.
abbrev pub never : Arms
never = record { times = 0; number = None; since = 0 }

-- The device was armed once more, with k, when its count was `since`.
abbrev pub armed_with : ℕ → ℕ → Arms → Arms
armed_with k since arms = record { times = one_more arms.times; number = Some k; since = since }

-- The device was armed with exactly these numbers, in this order, each at some count.
abbrev pub IsArmedBy : List ℕ → Arms → Arms → Type 0
IsArmedBy [] old new = new ≡ old
IsArmedBy (k ∷ numbers) old new = (since : ℕ) × IsArmedBy numbers (armed_with k since old) new

-- The device was armed with exactly the numbers of some prefix of the list, in this order.
abbrev pub IsArmedWithin : List ℕ → Arms → Arms → Type 0
IsArmedWithin numbers old new = (done more : List ℕ) × (numbers ≡ done ++ more) × IsArmedBy done old new

-- The number, or 0 if there is none.
abbrev pub most : Option ℕ → ℕ
most None = 0
most (Some k) = k

-- The fuse of a disc, given its count of writes: the last armed number, burnt by every write since then, unless the write count is
-- saturated.
pub record BurnsByWrites (writes : ℕ) (arms : Arms) (fuse : Option ℕ) : Type 0 where
  pub later : arms.since ≤ writes
  pub left : writes < 2 ^ 64 - 1 → fuse ≡ burnt_by (writes - arms.since) arms.number

-- The fuse of a rack, given its count of failed writes. A fuse lies between 1 and the last armed number. If a rack that was ever armed
-- has no fuse, a write has failed since it was last armed.
pub record BurnsByFailures (failed : ℕ) (arms : Arms) (fuse : Option ℕ) : Type 0 where
  pub later : arms.since ≤ failed
  pub left : (j : ℕ) → fuse ≡ Some j → (1 ≤ j) × (j ≤ most arms.number)
  pub spent : fuse ≡ None → (k : ℕ) → arms.number ≡ Some k → Rose arms.since failed
