-- A block that isn't marked yet is still free; the next one marked joins the first.
use Rattle.g_blocks.proofs.Marks.{IsFree-still, HasTaken-next}
use Rattle.g_blocks.proofs.pool.Pool.mark_all_taken.Goals as goal

pub mark_taken-requires : goal.mark_taken-requires
mark_taken-requires c = IsFree-still _ _ _ _ c.loop-block.invariant c.requires.apart c.requires.free c.loop-block-test.true

pub loop-block-preserved : goal.loop-block-preserved
loop-block-preserved c = HasTaken-next _ _ _ _ _ c.loop-block.invariant c.requires.apart c.requires.free c.loop-block-test.true c.mark_taken.ensures.flags
