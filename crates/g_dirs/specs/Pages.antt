-- The remembered slot blocks, and how many blocks a commit writes.
use Rattle.std.specs.Prelude.{◌≡◌, ◌≢◌, ℕ, zero, suc, ◌+◌, ◌<◌, Bool, true, false, List, Option, Some, None, replicate, slice_get, slice_set, if◌then◌else◌}
use Rattle.std.specs.Str.{bytes_eq}
use Rattle.g_entry.specs.declared.format.Format.TheVariants.{Two}
use Rattle.g_slots.specs.declared.side.Side.{Side}
use Rattle.g_slots.specs.declared.side.Side.TheVariants.{A, B}
use Rattle.g_slots.specs.Layout.{other, slot}
use Rattle.g_dirs.specs.Directory.{Directory}
use Rattle.g_dirs.specs.Image.{block_of}

-- what is remembered of the blocks of each slot, and which blocks may differ from those of the directory in memory
pub record Remembered : Type 0 where
  pub a : List (Option (List ℕ))
  pub b : List (Option (List ℕ))
  pub marks_a : List Bool
  pub marks_b : List Bool

abbrev pub pages_of : Side → Remembered → List (Option (List ℕ))
pages_of A pages = pages.a
pages_of B pages = pages.b

abbrev pub marks_of : Side → Remembered → List Bool
marks_of A pages = pages.marks_a
marks_of B pages = pages.marks_b

-- each remembered block is what the disc holds there
pub record Remembers (pages : Remembered) (blocks : List (List ℕ)) : Type 0 where
  pub block : (side : Side) (k : ℕ) (page : List ℕ) → slice_get (pages_of side pages) k ≡ Some (Some page) → slice_get (slot side blocks) k ≡ Some page

-- block k is remembered as this one
abbrev pub is_page : List ℕ → Option (Option (List ℕ)) → Bool
is_page block (Some (Some page)) = bytes_eq page block
is_page block page = false

abbrev pub is_remembered : List (Option (List ℕ)) → ℕ → List ℕ → Bool
is_remembered pages k block = is_page block (slice_get pages k)

-- how many of a directory's first n blocks differ from the remembered ones, or aren't remembered
unfoldable pub unwritten : Directory → List (Option (List ℕ)) → ℕ → ℕ
unwritten d pages zero = 0
unwritten d pages (suc k) = unwritten d pages k + (if is_remembered pages k (block_of Two d k) then 0 else 1)

-- the marks are unchanged
pub record KeepsMarks (old new : Remembered) : Type 0 where
  pub a : new.marks_a ≡ old.marks_a
  pub b : new.marks_b ≡ old.marks_b

-- the remembered blocks are unchanged
pub record KeepsPages (old new : Remembered) : Type 0 where
  pub a : new.a ≡ old.a
  pub b : new.b ≡ old.b

-- a slot has no mark, and nothing else has changed
pub record LosesMarks (side : Side) (old new : Remembered) : Type 0 where
  pub none : marks_of side new ≡ replicate 1088 false
  pub others : marks_of (other side) new ≡ marks_of (other side) old
  pub pages : KeepsPages old new

-- block k is marked in both slots
abbrev pub marked : ℕ → Remembered → Remembered
marked k pages = record { a = pages.a; b = pages.b; marks_a = slice_set pages.marks_a k true; marks_b = slice_set pages.marks_b k true }

-- all blocks are marked
abbrev pub all_marked : Remembered → Remembered
all_marked pages = record { a = pages.a; b = pages.b; marks_a = replicate 1088 true; marks_b = replicate 1088 true }

-- EACH BLOCK OF A SLOT WITHOUT A MARK is remembered as the directory's
pub record Covers (d : Directory) (side : Side) (pages : Remembered) : Type 0 where
  pub block : (k : ℕ) → k < 1088 → slice_get (marks_of side pages) k ≡ Some false
      → slice_get (pages_of side pages) k ≡ Some (Some (block_of Two d k))

-- block k of a slot is remembered as this one, and nothing else has changed
pub record RemembersPage (side : Side) (k : ℕ) (page : List ℕ) (old new : Remembered) : Type 0 where
  pub here : slice_get (pages_of side new) k ≡ Some (Some page)
  pub rest : (j : ℕ) → j ≢ k → slice_get (pages_of side new) j ≡ slice_get (pages_of side old) j
  pub opposite : pages_of (other side) new ≡ pages_of (other side) old
  pub marks : KeepsMarks old new

-- all 1,088 blocks of the directory are remembered
pub record RemembersAll (d : Directory) (pages : List (Option (List ℕ))) : Type 0 where
  pub block : (k : ℕ) → k < 1088 → slice_get pages k ≡ Some (Some (block_of Two d k))

-- nothing is remembered, and all blocks are marked
abbrev pub nothing : Remembered
nothing = record { a = replicate 1088 None; b = replicate 1088 None; marks_a = replicate 1088 true; marks_b = replicate 1088 true }
