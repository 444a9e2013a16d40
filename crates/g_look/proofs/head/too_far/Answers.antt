use Rattle.std.proofs.Common.{arith, refl, sym}
use Rattle.g_look.proofs.head.too_far.Goals as goal

pub returns-then-is_past-clause-some : goal.returns-then-is_past-clause-some
returns-then-is_past-clause-some c = (_, (_, omega arith, sym c.one-item.is), sym c.at_of.ensures, refl, c.is_past.ensures.0 c.if-is_past.true)
