use Rattle.std.proofs.Common.{arith, refl, sym}
use Rattle.g_look.proofs.head.too_new.Goals as goal

pub returns-then-is_new-clause-some : goal.returns-then-is_new-clause-some
returns-then-is_new-clause-some c = (_, (_, omega arith, sym c.one-item.is), sym c.at_of.ensures, refl, c.is_new.ensures.new c.if-is_new.true)
