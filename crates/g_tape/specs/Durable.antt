-- Which blocks of a reel survive a power loss, and what each call does to that.
use Rattle.std.specs.Prelude.{◌≡◌, ◌⊎◌, ℕ, ◌+◌, ◌≤◌, true, List, None, Result, OnErr, OnOk, length, take}
use Rattle.std.specs.Option.{ForSome}
use Rattle.g_tape.specs.declared.fault.TapeFault.{TapeFault}
use Rattle.g_tape.specs.Rack.{Rack, reel, refuses_write}
use Rattle.g_tape.specs.Reads.{LeavesNoMore, MayLeave, blocks_of, is_syncable}
use Rattle.g_tape.specs.Risk.{IsSynced, Leaves, risk}

-- If its blocks are observable: everything that a power loss may leave of the reel has this property.
abbrev pub AfterPowerLoss : ℕ → Rack → (List (List ℕ) → Type 0) → Type 0
AfterPowerLoss s rack P = ForSome (blocks_of s rack) (λ blocks. (left : List (List ℕ)) → Leaves (risk s rack.risks) blocks left → P left)

-- These blocks begin with the first n blocks of the reel.
abbrev pub HasFront : ℕ → ℕ → Rack → List (List ℕ) → Type 0
HasFront n s rack left = ForSome (blocks_of s rack) (λ blocks. take n left ≡ take n blocks)

-- The first n blocks of the reel survive. (If it has fewer, it survives whole, and nothing follows it.)
abbrev pub IsDurableTo : ℕ → ℕ → Rack → Type 0
IsDurableTo n s rack = AfterPowerLoss s rack (HasFront n s rack)

-- The whole reel survives, and nothing else is on it then.
abbrev pub IsDurable : ℕ → Rack → Type 0
IsDurable s rack = ForSome (blocks_of s rack) (λ blocks. (left : List (List ℕ)) → Leaves (risk s rack.risks) blocks left → left ≡ blocks)

-- The device makes the first n blocks durable by a sync that succeeds.
abbrev pub IsSyncableTo : ℕ → ℕ → Rack → Type 0
IsSyncableTo n s rack = (is_syncable s rack ≡ true) ⊎ IsDurableTo n s rack

-- Nothing changed of what a power loss may leave of the other reels.
abbrev pub OthersAsDurable : ℕ → Rack → Rack → Type 0
OthersAsDurable s old new = (t : ℕ) → (t ≡ s → ⊥) → risk t new.risks ≡ risk t old.risks

-- What a power loss may leave once a write of block k was begun: nothing after block k; and if the write is synced and the device still had
-- the blocks before it, these.
pub record MayBeBegun (s k : ℕ) (block : List ℕ) (old : Rack) (left : List (List ℕ)) : Type 0 where
  pub short : length left ≤ k + 1
  pub synced : IsSynced k block → IsSyncableTo k s old → HasFront k s old left

-- A WRITE of block k, whether it failed or not: of the blocks before it, those that were durable stay durable. A syncable reel stays so; and
-- if all blocks before it were durable and the write isn't refused, the reel is syncable. If the write is Ok, nothing follows the block on the device; and if it is
-- synced, the reel is durable, provided that the device still had the blocks before it. If the write failed, a power loss leaves what it
-- could have left before, or what was begun.
pub record WritesDurably (s k : ℕ) (block : List ℕ) (old : Rack) (result : Result (Unit {0}) TapeFault) (new : Rack) : Type 0 where
  pub others : OthersAsDurable s old new
  pub front : (n : ℕ) → n ≤ k → IsDurableTo n s old → IsDurableTo n s new
  pub syncable : is_syncable s old ≡ true → is_syncable s new ≡ true
  pub fresh : refuses_write k (reel s old.reels) ≡ None → IsDurableTo k s old → is_syncable s new ≡ true
  pub short : OnOk result (AfterPowerLoss s new (λ left. length left ≤ k + 1))
  pub synced : IsSynced k block → IsSyncableTo k s old → OnOk result (IsDurable s new)
  pub failed : OnErr result (AfterPowerLoss s new (λ left. MayLeave s old left ⊎ MayBeBegun s k block old left))

-- A reel was made durable if the device still had its blocks, or that failed.
pub record SecuresDurably (s : ℕ) (old : Rack) (result : Result (Unit {0}) TapeFault) (new : Rack) : Type 0 where
  pub others : OthersAsDurable s old new
  pub no_more : LeavesNoMore old new
  pub durable : OnOk result (is_syncable s old ≡ true → IsDurable s new)

-- Every reel of which the device still had its blocks was made durable, or that failed.
pub record AllSecureDurably (old : Rack) (result : Result (Unit {0}) TapeFault) (new : Rack) : Type 0 where
  pub no_more : LeavesNoMore old new
  pub durable : (s : ℕ) → OnOk result (is_syncable s old ≡ true → IsDurable s new)
