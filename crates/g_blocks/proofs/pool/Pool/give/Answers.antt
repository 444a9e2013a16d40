-- A block that hasn't been freed yet is still taken; the next freed block is added to the earlier ones.
use Rattle.g_blocks.proofs.Marks.{IsTaken-still, HasGiven-next}
use Rattle.g_blocks.proofs.pool.Pool.give.Goals as goal

pub mark_free-requires : goal.mark_free-requires
mark_free-requires c = IsTaken-still _ _ _ _ c.loop-block.invariant c.requires.apart c.requires.taken c.loop-block-test.true

pub loop-block-preserved : goal.loop-block-preserved
loop-block-preserved c = HasGiven-next _ _ _ _ _ c.loop-block.invariant c.requires.apart c.requires.taken c.loop-block-test.true c.mark_free.ensures.flags
