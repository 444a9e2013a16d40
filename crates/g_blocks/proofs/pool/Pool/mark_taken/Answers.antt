-- The count of the free flags falls by one.
use Rattle.std.proofs.Common.{arith}
use Rattle.g_blocks.proofs.Full.{all-taken}
use Rattle.g_blocks.proofs.Marks.{free_flags-some, free_count-taken}
use Rattle.g_blocks.proofs.pool.Pool.mark_taken.Goals as goal

pub overflow_sub-self : goal.overflow_sub-self
overflow_sub-self c = let some = free_flags-some _ _ _ c.self.view_is c.requires.flag in omega (arith, some, c.self.invariant.0)

pub invariant_of-self : goal.invariant_of-self
invariant_of-self c = all-taken _ _ _ _ _ _ _ c.self.view_is c.requires.flag c.self.invariant

pub returns-clause-count : goal.returns-clause-count
returns-clause-count c = free_count-taken _ _ _ c.self.view_is c.requires.flag
