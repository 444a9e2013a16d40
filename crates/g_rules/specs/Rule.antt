-- The requirements on a weigh rule: it accepts every standing in range, and its weight depends only on the standing.
use Rattle.std.specs.Prelude.{◌≡◌, ℕ, ◌^◌, ◌≤◌}
use Rattle.std.specs.Fn.{Shared}
use denote.Ref.{Bor}
use Rattle.g_rules.specs.declared.rule.Standing.{Standing}

-- A standing in range: an allowance of 1 to 1,000,000 units, of which at most all are used.
pub record IsInRange (standing : Standing) : Type 0 where
  pub something : 1 ≤ standing.allowance
  pub allowance : standing.allowance ≤ 1_000_000
  pub used : standing.used ≤ standing.allowance

-- A rule that accepts every standing in range, with a weight of at most 2^40, and the same weight for equal standings.
pub record IsWeighRule {U : Type 0} (calls : Shared U (Bor Standing × Unit {0}) ℕ) (rule : U) : Type 0 where
  pub callable : (standing : Bor Standing) → IsInRange standing.now → calls.pre rule (standing, tt)
  pub bounded : (standing : Bor Standing) (weight : ℕ) → IsInRange standing.now → calls.post rule (standing, tt) weight → weight ≤ 2 ^ 40
  pub same : (one other : Bor Standing) (weight weight' : ℕ) → IsInRange one.now → one.now ≡ other.now → calls.post rule (one, tt) weight → calls.post rule (other, tt) weight' → weight ≡ weight'
