use Rattle.std.proofs.Common.{arith}
use Rattle.g_look.proofs.HeadLemmas.{upto_step}
use Rattle.g_look.proofs.head.end_upto.Goals as goal

pub loop-one-preserved : goal.loop-one-preserved
loop-one-preserved c = upto_step _ _ _ _ _ _ _ (omega arith) c.one-item.is c.loop-one.invariant c.end_with-end.ensures
