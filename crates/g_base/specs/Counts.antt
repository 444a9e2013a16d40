-- Event counts, which rise by one at a time and saturate at 2^64 - 1, the last value of their type.
use Rattle.std.specs.Prelude.{◌≡◌, ℕ, ◌+◌, ◌-◌, ◌^◌, ◌<◌, ◌≤◌, min, max}

-- The count after one more event. At 2^64 - 1 it stays the same; a greater number, which no count reaches, is unchanged
-- too.
abbrev pub one_more : ℕ → ℕ
one_more n = max n (min (n + 1) (2 ^ 64 - 1))

-- A count of faults rose: it is greater now, or saturated. A saturated count counts as having risen.
pub record Rose (before now : ℕ) : Type 0 where
  pub more : one_more before ≤ now

-- A count of faults rose by at least n, where a saturated count counts as having risen by any amount.
pub record HasRisenBy (n before now : ℕ) : Type 0 where
  pub later : before ≤ now
  pub by : min (before + n) (2 ^ 64 - 1) ≤ now

-- A count of calls rose by exactly n, unless that would saturate it.
pub record RoseBy (n before now : ℕ) : Type 0 where
  pub exactly : before + n < 2 ^ 64 → now ≡ before + n
