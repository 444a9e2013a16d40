-- What a power loss may leave of a reel.
use Rattle.std.specs.Prelude.{◌≡◌, ◌⊎◌, ℕ, ◌≤◌, ◌==◌, Bool, true, List, [], ◌∷◌, All, Contains, Option, Some, None, length, take, if◌then◌else◌}
use Rattle.g_base.specs.Block.{IsBlock}

-- One thing that a power loss may leave of a reel: these blocks, and possibly more blocks of any content, up to `longest` in all.
pub record Remnant : Type 0 where
  pub front : List (List ℕ)
  pub longest : ℕ

-- A reel of which not everything is durable: a power loss leaves one of the remnants. If it is syncable, the device still has all its
-- blocks: it makes them durable when the reel is secured, and before it writes a block that is synced.
pub record Risk : Type 0 where
  pub serial : ℕ
  pub remnants : List Remnant
  pub syncable : Bool

-- The risk noted of the reel with this serial. If there is none, the reel is durable.
abbrev pub risk : ℕ → List Risk → Option Risk
risk s [] = None
risk s (r ∷ rs) = if s == r.serial then Some r else risk s rs

-- These blocks may be what is left.
pub record IsRemnant (m : Remnant) (left : List (List ℕ)) : Type 0 where
  pub front : take (length m.front) left ≡ m.front
  pub most : length left ≤ m.longest
  pub whole : All IsBlock left

-- WHAT A POWER LOSS MAY LEAVE of a reel of these blocks
abbrev pub Leaves : Option Risk → List (List ℕ) → List (List ℕ) → Type 0
Leaves None blocks left = left ≡ blocks
Leaves (Some r) blocks left = (m : Remnant) × Contains r.remnants m × IsRemnant m left

-- whether the device can still make all blocks durable; true if there is no risk
abbrev pub syncs : Option Risk → Bool
syncs None = true
syncs (Some r) = r.syncable

-- THE WRITES THAT ARE SYNCED: when they return `Ok`, the block and all before it are durable if the device still had them. These are writes
-- of block 0 and of blocks that begin as a dump's header ("G3HD") or its mark ("G3MK") does, content blocks among them.
abbrev pub IsSynced : ℕ → List ℕ → Type 0
IsSynced k block = (k ≡ 0) ⊎ ((rest : List ℕ) × ((block ≡ 71 ∷ 51 ∷ 72 ∷ 68 ∷ rest) ⊎ (block ≡ 71 ∷ 51 ∷ 77 ∷ 75 ∷ rest)))
