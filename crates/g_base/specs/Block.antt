-- Blocks of 512 bytes, the unit of every disc and reel.
use Rattle.std.specs.Prelude.{◌≡◌, ℕ, ◌+◌, ◌/◌, ◌<◌, List, length, slice_index, slice_set, Option, option_map}

-- A block is a list of 512 bytes. A proof knows this of every `[u8; 512]`.
pub record IsBlock (block : List ℕ) : Type 0 where
  pub size : length block ≡ 512
  pub bytes : (i : ℕ) → slice_index block i < 256

-- The number of blocks that n bytes occupy; the last one may be partly used.
abbrev pub blocks_for : ℕ → ℕ
blocks_for n = (n + 511) / 512

-- The exposed blocks with block k replaced; they remain unexposed if they were.
abbrev pub with_block : ℕ → List ℕ → Option (List (List ℕ)) → Option (List (List ℕ))
with_block k block held = option_map (λ blocks. slice_set blocks k block) held
