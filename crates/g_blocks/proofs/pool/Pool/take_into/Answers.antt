-- The least free blocks are strictly increasing, so they are distinct. Contracts don't see where the search begins.
use Rattle.std.proofs.Common.{◌≢◌, AllPairs, Bool, List, ℕ, sym, subst}
use Rattle.g_blocks.specs.Pool.{HasTaken}
use Rattle.g_blocks.proofs.Marks.{apart-rising}
use Rattle.g_blocks.proofs.pool.Pool.take_into.Goals as goal

pub mark_all_taken-requires-clause-apart : goal.mark_all_taken-requires-clause-apart
mark_all_taken-requires-clause-apart c =
    subst (AllPairs (λ (one other : ℕ). one ≢ other)) (sym c.as_slice.ensures.value) (apart-rising _ c.put_least_free.ensures.rising)

pub returns-clause-taken : goal.returns-clause-taken
returns-clause-taken c =
    let taken : HasTaken c.put_least_free.new.blocks c.skip_taken.new.self c.mark_all_taken.new.self =
    subst (λ (blocks : List ℕ). HasTaken blocks c.skip_taken.new.self c.mark_all_taken.new.self) c.as_slice.ensures.value c.mark_all_taken.ensures in
    subst (λ (old : List Bool). HasTaken c.put_least_free.new.blocks old c.mark_all_taken.new.self) c.skip_taken.ensures taken
