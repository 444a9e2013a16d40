-- The count of the free flags rises by one.
use Rattle.std.proofs.Common.{Bool, List, arith, subst}
use Rattle.g_blocks.specs.Flags.{AreSetBefore}
use Rattle.g_blocks.proofs.Full.{all-given}
use Rattle.g_blocks.proofs.Marks.{free_count-given}
use Rattle.g_blocks.proofs.pool.Pool.mark_free.Goals as goal

pub invariant_of-self : goal.invariant_of-self
invariant_of-self c =
    all-given _ _ _ _ _ _ _ _ _ _ c.self.view_is c.requires.flag (omega arith) (subst (λ (flags : List Bool). AreSetBefore c.search_start-start.result flags) c.deref.ensures.value c.search_start-start.ensures.before)
    c.next_without-self-inside.ensures.before c.next_without-self-inside.ensures.same c.next_without-self-inside.ensures.after c.self.invariant

pub returns-clause-count : goal.returns-clause-count
returns-clause-count c = free_count-given _ _ _ c.self.view_is c.requires.flag
