use Rattle.std.proofs.Common.{arith}
use Rattle.g_look.proofs.ShownLemmas.{count_so_far}
use Rattle.g_look.proofs.rack_text.count_on.Goals as goal

pub loop-one-preserved : goal.loop-one-preserved
loop-one-preserved c = count_so_far _ _ _ _ _ _ (omega arith) c.one-item.is c.loop-one.invariant c.ones-count.ensures.exact c.ones-count.ensures.most
