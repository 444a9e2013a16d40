use Rattle.std.proofs.Common.{arith}
use Rattle.g_look.proofs.GapLemmas.{whole_more}
use Rattle.g_look.proofs.gaps.newest_whole.Goals as goal

pub loop-one-preserved : goal.loop-one-preserved
loop-one-preserved c =
    whole_more _ _ _ _ _ (omega arith) c.one-item.is c.loop-one.invariant c.newer_whole-newest.ensures.least c.newer_whole-newest.ensures.whole c.newer_whole-newest.ensures.there
