use Rattle.std.proofs.Common.{inr, refl, subst, sym, ◌∙◌}
use Rattle.g_cache.specs.Absent.{AreAbsent}
use Rattle.g_cache.proofs.AbsentLemmas.{absent_found, absent_kept, others_noted}
use Rattle.g_cache.proofs.KeptLemmas.{Agrees-found, Agrees-read, CachedReads-found}
use Rattle.g_cache.proofs.cached_disc.CachedDiscDisc.read.Goals as goal

pub invariant_of-self : goal.invariant_of-self
invariant_of-self g c = (
  Agrees-found c.args.k c.self.inside.cache c.recall.new.self c.recall.new.into _ (c.recall.ensures.block c.if-recall.true) (c.recall.ensures.first c.if-recall.true) c.self.invariant.0,
  absent_found c.args.k c.self.inside.absent c.self.inside.cache c.recall.new.self c.self.invariant.1 c.recall.new.into c.recall.new.into (c.recall.ensures.block c.if-recall.true) (c.recall.ensures.first c.if-recall.true),
)

pub returns-then-recall : goal.returns-then-recall
returns-then-recall g c =
    CachedReads-found g.D.Disc.state c.args.k c.self.inside.cache c.recall.new.self c.recall.new.into c.args.self.now c.self.inside.disc tt c.self.view_is
    (c.recall.ensures.block c.if-recall.true) (c.recall.ensures.first c.if-recall.true) c.self.invariant.0

-- it was written since its last read
pub invariant_of-self-then-has : goal.invariant_of-self-then-has
invariant_of-self-then-has g c = (
  Agrees-read c.args.k c.self.inside.cache c.recall.new.self c.recall.new.self c.read.new.into (g.D.Disc.state c.self.inside.disc).held
      (g.D.Disc.state c.read.new.self).held (c.recall.ensures.missed c.if-recall.false) c.read.ensures.held c.in_ok-read.ensures.block (inr refl) c.self.invariant.0,
  absent_kept c.args.k c.self.inside.absent c.recall.new.self c.recall.new.self (subst (AreAbsent c.self.inside.absent) (sym (c.recall.ensures.missed c.if-recall.false)) c.self.invariant.1)
      c.strike.new.self c.read.new.into c.strike.ensures (inr refl),
)

-- it wasn't
pub invariant_of-self-2 : goal.invariant_of-self-2
invariant_of-self-2 g c = (
  Agrees-read c.args.k c.self.inside.cache c.recall.new.self c.keep.new.self c.read.new.into (g.D.Disc.state c.self.inside.disc).held
      (g.D.Disc.state c.read.new.self).held (c.recall.ensures.missed c.if-recall.false) c.read.ensures.held c.in_ok-read.ensures.block c.keep.ensures c.self.invariant.0,
  absent_kept c.args.k c.self.inside.absent c.recall.new.self c.keep.new.self (subst (AreAbsent c.self.inside.absent) (sym (c.recall.ensures.missed c.if-recall.false)) c.self.invariant.1)
      c.self.inside.absent c.read.new.into (others_noted c.args.k c.self.inside.absent (sym c.has.ensures ∙ c.if-has.false)) c.keep.ensures,
)
