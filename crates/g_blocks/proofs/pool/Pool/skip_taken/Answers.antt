-- What is set before the place that was found, and which groups are full.
use Rattle.std.proofs.Common.{List, Bool, arith, subst}
use Rattle.g_blocks.specs.Flags.{AreSetBefore}
use Rattle.g_blocks.proofs.Between.{between-later}
use Rattle.g_blocks.proofs.Full.{full-noted}
use Rattle.g_blocks.proofs.pool.Pool.skip_taken.Goals as goal

pub note_full-requires : goal.note_full-requires
note_full-requires c =
    let before = subst (λ (flags : List Bool). AreSetBefore c.first_free-low.result flags) c.deref-2.ensures.value c.first_free-low.ensures.before in
    let size = c.self.invariant.3.size in
    let within = before.within in
    omega (arith, size, within)

pub invariant_of-self : goal.invariant_of-self
invariant_of-self c =
    let before = subst (λ (flags : List Bool). AreSetBefore c.first_free-low.result flags) c.deref-2.ensures.value c.first_free-low.ensures.before in (
      c.self.invariant.0,
      c.self.invariant.1,
      before,
      full-noted c.self.inside.full.items _ c.self.inside.taken.items c.first_free-low.result c.self.invariant.3 before c.note_full.ensures.size c.note_full.ensures.noted,
      between-later _ _ _ _ (let first = c.search_start-start.ensures.later in let found = c.first_free-low.ensures.later in omega (arith, first, found)) c.self.invariant.4,
    )
