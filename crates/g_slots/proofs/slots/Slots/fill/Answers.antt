use Rattle.std.proofs.Common.{◌∙◌, arith}
use Rattle.g_base.proofs.ToldLemmas.{Changes-weaken}
use Rattle.g_slots.proofs.Filling.{fills_all, filled_more, filled_syncable}
use Rattle.g_slots.proofs.slots.Slots.fill.Goals as goal

pub loop-k-preserved : goal.loop-k-preserved
loop-k-preserved g c =
    filled_more c.args.self.now c.loop-k.k c.args.image.now _ (g.D.Disc.state c.loop-k.disc) _ c.in_ok-prepare.field-0 c.loop-k-test.true c.requires.image c.requires.size
    (λ a told. (c.size-size.ensures.blocks a told).0 ∙ c.size-size.ensures.size)
    c.loop-k.invariant c.in_ok-prepare.ensures.ok c.in_ok-prepare.ensures.counts c.in_ok-prepare.ensures.dirties

pub returns-clause-ok : goal.returns-clause-ok
returns-clause-ok g c =
    Changes-weaken c.loop-k.invariant.content
    (λ a b told. fills_all c.args.self.now c.loop-k.k c.args.image.now a b c.requires.image (omega arith) (omega arith))

pub returns-clause-dirties : goal.returns-clause-dirties
returns-clause-dirties g c = record {
  durable = c.loop-k.invariant.durable;
  syncable = c.loop-k.invariant.syncable;
  here = filled_syncable c.args.self.now c.loop-k.k c.args.image.now (g.D.Disc.state c.args.disc.now) (g.D.Disc.state c.loop-k.disc) (omega arith) c.loop-k.invariant;
}
