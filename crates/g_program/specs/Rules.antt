-- The rules of this program: what a turn costs, and what a job weighs.
use Rattle.std.specs.Prelude.{◌≡◌, ℕ, ◌+◌, ◌*◌, ◌/◌}
use Rattle.std.specs.Fn.{Shared}
use denote.Ref.{Bor}
use Rattle.g_rules.specs.declared.tariff.Charge.{Charge}
use Rattle.g_rules.specs.declared.tariff.Usage.{Usage}
use Rattle.g_rules.specs.declared.rule.Standing.{Standing}

-- WHAT A TURN COSTS: a unit of TIME, one more for each 64 orders and each 64 blocks, and one of MONEY for each 64 blocks
abbrev pub price : Usage → Charge
price usage = record { units = 1 + usage.orders / 64 + usage.blocks / 64; money = usage.blocks / 64 }

-- WHAT A JOB WEIGHS: the share of its TIME that it has used, in millionths, rounded down
abbrev pub share_used : Standing → ℕ
share_used standing = standing.used * 1000000 / standing.allowance

-- the rule that accepts every argument, and whose only answer is that of f
abbrev pub answering : {T R : Type 0} → (T → R) → Shared (Unit {0}) (Bor T × Unit {0}) R
answering f = record {
  pre = λ rule asked. Unit {0};
  post = λ rule asked answer. answer ≡ f asked.0.now;
  steps = λ rule asked answer rule'. (answer ≡ f asked.0.now) × (rule' ≡ rule);
}
