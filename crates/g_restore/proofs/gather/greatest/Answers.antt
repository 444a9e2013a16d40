use Rattle.std.proofs.Common.{arith}
use Rattle.g_restore.proofs.BestLemmas.{none_best, one_more}
use Rattle.g_restore.proofs.gather.greatest.Goals as goal

pub loop-i-init : goal.loop-i-init
loop-i-init c = none_best _ _

pub loop-i-preserved : goal.loop-i-preserved
loop-i-preserved c = rw c.newer_holder-best.ensures (one_more _ _ _ _ _ (omega arith) c.index-found-i.is c.loop-i.invariant)
