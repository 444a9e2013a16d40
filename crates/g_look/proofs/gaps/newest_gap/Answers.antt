use Rattle.std.proofs.Common.{arith}
use Rattle.g_look.proofs.GapLemmas.{walked_all, walked_more}
use Rattle.g_look.proofs.gaps.newest_gap.Goals as goal

pub loop-dump-preserved : goal.loop-dump-preserved
loop-dump-preserved c = walked_more _ _ c.requires _ _ (omega arith) _ _ _ _ c.max-reached.ensures c.gap_with-gap.ensures.skipped c.gap_with-gap.ensures.near c.loop-dump.invariant

pub returns : goal.returns
returns c = walked_all _ _ c.requires _ _ (omega arith) _ c.loop-dump.invariant
