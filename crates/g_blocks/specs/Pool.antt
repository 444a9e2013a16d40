-- The free and the taken blocks of a pool, and how taking and freeing blocks changes them. A pool is the list of its blocks'
-- flags.
use Rattle.std.specs.Prelude.{◌≡◌, ℕ, ◌+◌, ◌-◌, ◌<◌, ◌≤◌, List, Bool, true, false, Some, length, All, Contains, slice_get}
use Rattle.std.specs.List.Sorted.{IsStrictlyIncreasing}
use Rattle.g_base.specs.Limits.{first_copy_block}
use Rattle.g_blocks.specs.Flags.{free_flags}

-- The block is a copy block of a disc of this size.
pub record IsInArea (size block : ℕ) : Type 0 where
  pub low : first_copy_block ≤ block
  pub high : block < size

-- The block is in the pool, and free.
pub record IsFree (pool : List Bool) (block : ℕ) : Type 0 where
  pub low : first_copy_block ≤ block
  pub flag : slice_get pool (block - first_copy_block) ≡ Some false

-- The block is in the pool, and taken.
pub record IsTaken (pool : List Bool) (block : ℕ) : Type 0 where
  pub low : first_copy_block ≤ block
  pub flag : slice_get pool (block - first_copy_block) ≡ Some true

-- The number of free blocks of the pool.
abbrev pub free_count : List Bool → ℕ
free_count pool = free_flags pool

-- The list has n free blocks in increasing order, and every other free block is greater than they are.
pub record AreLeastFree (pool : List Bool) (n : ℕ) (blocks : List ℕ) : Type 0 where
  pub count : length blocks ≡ n
  pub rising : IsStrictlyIncreasing blocks
  pub free : All (IsFree pool) blocks
  pub least : (block : ℕ) → IsFree pool block → (Contains blocks block → ⊥) → All (λ other. other < block) blocks

-- The pools have the same size, and all blocks but these are free or taken as before.
pub record ChangesOnly (blocks : List ℕ) (old new : List Bool) : Type 0 where
  pub size : length new ≡ length old
  pub others : (place : ℕ) → (Contains blocks (first_copy_block + place) → ⊥) → slice_get new place ≡ slice_get old place

-- Exactly these blocks changed from free to taken.
pub record HasTaken (blocks : List ℕ) (old new : List Bool) : Type 0 where
  pub changes : ChangesOnly blocks old new
  pub taken : All (IsTaken new) blocks
  pub count : free_count new + length blocks ≡ free_count old

-- Exactly these blocks changed from taken to free.
pub record HasGiven (blocks : List ℕ) (old new : List Bool) : Type 0 where
  pub changes : ChangesOnly blocks old new
  pub free : All (IsFree new) blocks
  pub count : free_count new ≡ free_count old + length blocks

-- The pool of a disc of this size on which exactly these blocks are taken.
pub record IsFresh (size : ℕ) (used : List ℕ) (pool : List Bool) : Type 0 where
  pub whole : first_copy_block + length pool ≡ size
  pub taken : All (IsTaken pool) used
  pub free : (block : ℕ) → IsInArea size block → (Contains used block → ⊥) → IsFree pool block
  pub count : first_copy_block + free_count pool + length used ≡ size
