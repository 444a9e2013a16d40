use Rattle.std.proofs.Common.{arith}
use Rattle.g_look.proofs.GapLemmas.{not_all}
use Rattle.g_look.proofs.gaps.holds_all.Goals as goal

pub returns-then-not-holds : goal.returns-then-not-holds
returns-then-not-holds c = not_all _ _ _ _ c.user-item.result _ c.as_slice-user-items.ensures.value (omega arith) c.user-item.is c.holds.ensures c.if-not-holds.true
