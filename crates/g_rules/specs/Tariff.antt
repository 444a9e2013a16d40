-- The requirements on a tariff's rule: it accepts every usage in range, and its charges are in range.
use Rattle.std.specs.Prelude.{◌≤◌}
use Rattle.std.specs.Fn.{Shared}
use denote.Ref.{Bor}
use Rattle.g_rules.specs.declared.tariff.Usage.{Usage}
use Rattle.g_rules.specs.declared.tariff.Charge.{Charge}

-- A usage in range: at most 64 orders and 4,096 blocks.
pub record IsUsage (usage : Usage) : Type 0 where
  pub orders : usage.orders ≤ 64
  pub blocks : usage.blocks ≤ 4096

-- A charge in range: 1 to 1,000,000 units of TIME, so that every turn costs something, and at most 1,000,000 of MONEY.
pub record IsCharge (charge : Charge) : Type 0 where
  pub something : 1 ≤ charge.units
  pub units : charge.units ≤ 1_000_000
  pub money : charge.money ≤ 1_000_000

-- A rule that accepts every usage in range and answers it with a charge in range.
pub record IsTariff {F : Type 0} (calls : Shared F (Bor Usage × Unit {0}) Charge) (rule : F) : Type 0 where
  pub callable : (usage : Bor Usage) → IsUsage usage.now → calls.pre rule (usage, tt)
  pub charges : (usage : Bor Usage) (charge : Charge) → IsUsage usage.now → calls.post rule (usage, tt) charge → IsCharge charge
