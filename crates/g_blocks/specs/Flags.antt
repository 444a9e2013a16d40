-- The flags of a pool's blocks, true for a taken block: how many aren't set, and up to which place all are.
use Rattle.std.specs.Prelude.{◌≡◌, ℕ, ◌+◌, ◌/◌, ◌<◌, ◌≤◌, List, Bool, true, Some, length, not, count_by, slice_get}

-- The number of flags that aren't set.
abbrev pub free_flags : List Bool → ℕ
free_flags flags = count_by not flags

-- All flags before this place, which is at most their number, are set.
pub record AreSetBefore (place : ℕ) (flags : List Bool) : Type 0 where
  pub within : place ≤ length flags
  pub each : (i : ℕ) → i < place → slice_get flags i ≡ Some true

-- All flags after the place `low` and before the place `next`, which is at most their number, are set.
pub record AreSetBetween (low next : ℕ) (flags : List Bool) : Type 0 where
  pub within : next ≤ length flags
  pub each : (i : ℕ) → low < i → i < next → slice_get flags i ≡ Some true

-- There is a note for each group of 128 flags. In a group that is noted as full all flags are set.
pub record AreFull (full flags : List Bool) : Type 0 where
  pub size : length full ≡ length flags / 128 + 1
  pub each : (i : ℕ) → i < length flags → slice_get full (i / 128) ≡ Some true → slice_get flags i ≡ Some true
