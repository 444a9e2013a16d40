-- The marks at the blocks of a slot that may have to be written.
use Rattle.std.specs.Prelude.{◌≡◌, ℕ, ◌/◌, ◌<◌, ◌≤◌, Bool, true, false, List, Some, length, slice_get}

-- the first mark from block k on, or 1,088 if there is none
pub record IsNext (marks : List Bool) (k next : ℕ) : Type 0 where
  pub reached : k ≤ next
  pub within : next ≤ 1088
  pub marked : next < 1088 → slice_get marks next ≡ Some true
  pub passed : (j : ℕ) → k ≤ j → j < next → slice_get marks j ≡ Some false

-- a note for each group of 32 blocks: in a group without one no block is marked
pub record AreNoted (noted marks : List Bool) : Type 0 where
  pub size : length noted ≡ 34
  pub each : (i : ℕ) → i < 1088 → slice_get noted (i / 32) ≡ Some false → slice_get marks i ≡ Some false

-- no block between block 0 and this one is marked
pub record AreOffBefore (low : ℕ) (marks : List Bool) : Type 0 where
  pub within : low ≤ 1088
  pub off : (i : ℕ) → 0 < i → i < low → slice_get marks i ≡ Some false

-- a place after k; no block from k up to it is marked
pub record IsBehind (marks : List Bool) (k next : ℕ) : Type 0 where
  pub later : k < next
  pub within : next ≤ 1088
  pub passed : (j : ℕ) → k ≤ j → j < next → slice_get marks j ≡ Some false
