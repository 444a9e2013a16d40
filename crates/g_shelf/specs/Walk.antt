-- The walk over a reel's dumps, and what it collects from them.
use Rattle.std.specs.Prelude.{◌≡◌, ℕ, ◌≤◌, List, [], ◌∷◌, ◌++◌}
use Rattle.g_tape.specs.Rack.{Rack}
use Rattle.g_incr.specs.declared.note.DumpDir.{DumpDir}
use Rattle.g_incr.specs.Layout.{Dump}
use Rattle.g_incr.specs.Reading.{HasReadDump, IsFound}
use Rattle.g_shelf.specs.FoundDumps.{AreRead}

-- There is one item for each dump, in their order, related to it by `is_of`.
abbrev pub AreOf : {K : Type 0} → (K → Dump → Type 0) → List K → List Dump → Type 0
AreOf is_of [] [] = Unit {0}
AreOf is_of [] (d ∷ ds) = ⊥
AreOf is_of (k ∷ ks) [] = ⊥
AreOf is_of (k ∷ ks) (d ∷ ds) = is_of k d × AreOf is_of ks ds

-- The items of the dumps that were read on the reel were appended.
pub record HasMore {K : Type 0} (is_of : K → Dump → Type 0) (serial : ℕ) (before after : List K) (old new : Rack) : Type 0 where
  pub dumps : List Dump
  pub more : List K
  pub after_is : after ≡ before ++ more
  pub are_of : AreOf is_of more dumps
  pub read : AreRead serial dumps old new

-- A dump was read at block `at` of the reel, and its number is at least `from`.
pub record IsNextDump (serial at from : ℕ) (old new : Rack) (dir : DumpDir) : Type 0 where
  pub found : IsFound serial at old dir
  pub number : from ≤ dir.note.number
  pub read : HasReadDump serial dir.note old new
