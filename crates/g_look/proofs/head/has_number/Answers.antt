use Rattle.std.proofs.Common.{arith, refl, sym}
use Rattle.g_look.proofs.head.has_number.Goals as goal

pub returns-then-is_numbered : goal.returns-then-is_numbered
returns-then-is_numbered c = (λ yes. record { one = _; there = (_, omega arith, sym c.one-item.is); number_is = c.is_numbered.ensures.0 c.if-is_numbered.true }, λ has. refl)
