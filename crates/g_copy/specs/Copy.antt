-- A text's copy on disc: which blocks it takes, and how they hold it.
use Rattle.std.specs.Prelude.{◌≡◌, ◌≢◌, ℕ, ◌*◌, List, [], length, take, All, AllPairs, Contains, slice_get, slice_index_or}
use Rattle.std.specs.List.{flat_map}
use Rattle.g_base.specs.Block.{blocks_for}
use Rattle.g_base.specs.Fields.{padded}
use Rattle.g_blocks.specs.Pool.{IsInArea}
use Rattle.g_copy.specs.declared.copy.DiscCopy.{DiscCopy}

-- a copy on a disc of that size: as many distinct blocks of the copy area as its bytes need
pub record IsCopy (size : ℕ) (copy : DiscCopy) : Type 0 where
  pub count : length copy.blocks ≡ blocks_for copy.len
  pub area : All (IsInArea size) copy.blocks
  pub apart : AllPairs (λ j k. j ≢ k) copy.blocks

-- the blocks of those numbers, concatenated
unfoldable pub blocks_at : List ℕ → List (List ℕ) → List ℕ
blocks_at places blocks = flat_map (λ k. slice_index_or blocks k []) places

-- the first len bytes of these
abbrev pub bytes_at : List ℕ → ℕ → List (List ℕ) → List ℕ
bytes_at places len blocks = take len (blocks_at places blocks)

-- only the blocks of those numbers changed
pub record OnlyAt (places : List ℕ) (before after : List (List ℕ)) : Type 0 where
  pub size : length after ≡ length before
  pub others : (k : ℕ) → (Contains places k → ⊥) → slice_get after k ≡ slice_get before k

-- those blocks hold the bytes, followed by zeros, and no other block has changed
pub record Holds (places bytes : List ℕ) (before after : List (List ℕ)) : Type 0 where
  pub only : OnlyAt places before after
  pub blocks_are : blocks_at places after ≡ padded (512 * length places) bytes
  pub bytes_are : bytes_at places (length bytes) after ≡ bytes
