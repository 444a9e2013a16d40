-- What each step of a commit does to the parts of a disc.
use Rattle.std.specs.Prelude.{◌≡◌, ℕ, List, length, slice_set, ◌⊎◌}
use Rattle.g_base.specs.Block.{IsBlock}
use Rattle.g_slots.specs.declared.side.Side.{Side}
use Rattle.g_slots.specs.Layout.{other, slot, copy_area, gate_side, current}

-- nothing but the slot opposite `side` has changed
pub record KeepsCurrent (side : Side) (before after : List (List ℕ)) : Type 0 where
  pub size : length after ≡ length before
  pub gate : gate_side after ≡ gate_side before
  pub kept : slot side after ≡ slot side before
  pub copies : copy_area after ≡ copy_area before

-- block k of the slot opposite `side` is now this one, and nothing else has changed
pub record Prepares (side : Side) (k : ℕ) (block : List ℕ) (before after : List (List ℕ)) : Type 0 where
  pub kept : KeepsCurrent side before after
  pub written : slot (other side) after ≡ slice_set (slot (other side) before) k block

-- in the slot opposite `side` no block but block k has changed; block k may hold any bytes
pub record Tears (side : Side) (k : ℕ) (before after : List (List ℕ)) : Type 0 where
  pub left : List ℕ
  pub whole : IsBlock left
  pub torn : slot (other side) after ≡ slice_set (slot (other side) before) k left

-- the slot opposite `side` now holds the image, and nothing else has changed
pub record Fills (side : Side) (image before after : List (List ℕ)) : Type 0 where
  pub kept : KeepsCurrent side before after
  pub whole : slot (other side) after ≡ image

-- nothing but the gate has changed
pub record Flips (before after : List (List ℕ)) : Type 0 where
  pub size : length after ≡ length before
  pub slots : (side : Side) → slot side after ≡ slot side before
  pub copies : copy_area after ≡ copy_area before

-- the other slot holds the image and is current
pub record Commits (side : Side) (image before after : List (List ℕ)) : Type 0 where
  pub size : length after ≡ length before
  pub gate : gate_side after ≡ other side
  pub whole : slot (other side) after ≡ image
  pub kept : slot side after ≡ slot side before
  pub copies : copy_area after ≡ copy_area before

-- the current slot is unchanged, or is the whole image
pub record CommitsOrNot (image before after : List (List ℕ)) : Type 0 where
  pub size : length after ≡ length before
  pub whole : (current after ≡ current before) ⊎ (current after ≡ image)
  pub copies : copy_area after ≡ copy_area before
