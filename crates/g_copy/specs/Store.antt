-- Storing a text in the lowest free blocks of a pool.
use Rattle.std.specs.Prelude.{◌≡◌, ℕ, List, Bool, Contains, true}
use Rattle.g_base.specs.Block.{blocks_for}
use Rattle.g_base.specs.ToldContent.{Changes}
use Rattle.g_blocks.specs.Pool.{AreLeastFree, HasTaken}
use Rattle.g_disc.specs.Disc.{DiscState, is_durable}
use Rattle.g_copy.specs.Copy.{OnlyAt}

-- these are the lowest free blocks of the pool, as many as n bytes need, and only these have been taken
pub record Takes (n : ℕ) (places : List ℕ) (old new : List Bool) : Type 0 where
  pub least : AreLeastFree old (blocks_for n) places
  pub taken : HasTaken places old new

-- A write failed. The blocks that were taken for n bytes may hold anything; all others are unchanged, and stay durable.
pub record StopsIn (n : ℕ) (old new : List Bool) (before after : DiscState) : Type 0 where
  pub places : List ℕ
  pub takes : Takes n places old new
  pub content : Changes (OnlyAt places) before.held after.held
  pub durable : (k : ℕ) → (Contains places k → ⊥) → is_durable before k ≡ true → is_durable after k ≡ true
