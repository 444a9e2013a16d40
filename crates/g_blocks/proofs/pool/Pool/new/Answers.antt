-- In a pool that had no taken blocks, exactly the used ones were taken.
use Rattle.g_blocks.proofs.Marks.{IsFresh-taken}
use Rattle.g_blocks.proofs.pool.Pool.new.Goals as goal

pub returns-clause-ok : goal.returns-clause-ok
returns-clause-ok c = IsFresh-taken _ _ _ _ c.requires.low c.in-Ok.ensures c.mark_all_taken.ensures
