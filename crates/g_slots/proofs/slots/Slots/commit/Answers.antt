use Rattle.std.proofs.Common.{◌∙◌}
use Rattle.g_slots.proofs.OneWrite.{on_err}
use Rattle.g_slots.proofs.Surviving.{old_survives, survives, survives_filling, survives_flipping}
use Rattle.g_slots.proofs.slots.Slots.commit.Goals as goal

pub returns-in_err-fill-clause-one_survives : goal.returns-in_err-fill-clause-one_survives
returns-in_err-fill-clause-one_survives g c = λ gate durable.
    on_err c.from_residual.result
    (survives_filling c.args.self.now c.args.image.now (g.D.Disc.state c.args.disc.now) (g.D.Disc.state c.fill.new.disc)
    (λ b told. (c.size-size.ensures.blocks b told).0 ∙ c.size-size.ensures.size) c.in_err-fill.ensures.counts.size c.in_err-fill.ensures.dirties.durable
    c.requires.gate c.in_err-fill.ensures.stopped gate durable)

pub returns-clause-survives : goal.returns-clause-survives
returns-clause-survives g c =
    survives c.args.self.now c.args.image.now (g.D.Disc.state c.args.disc.now) (g.D.Disc.state c.fill.new.disc)
    (λ b told. (c.size-size.ensures.blocks b told).0 ∙ c.size-size.ensures.size) c.in_ok-fill.ensures.counts.size c.in_ok-fill.ensures.dirties.durable
    (g.D.Disc.state c.flip.new.disc) c.flip.ensures.counts.size c.in_ok-fill.ensures.ok c.flip.ensures.any c.flip.ensures.durable
    c.flip.result c.flip.new.self c.in_ok-fill.ensures.dirties.here c.flip.ensures.side c.flip.ensures.gate c.flip.ensures.synced

pub returns-clause-old_survives : goal.returns-clause-old_survives
returns-clause-old_survives g c = λ durable.
    old_survives c.args.self.now c.args.image.now (g.D.Disc.state c.args.disc.now) (g.D.Disc.state c.fill.new.disc)
    (λ b told. (c.size-size.ensures.blocks b told).0 ∙ c.size-size.ensures.size) c.in_ok-fill.ensures.counts.size c.in_ok-fill.ensures.dirties.durable
    (g.D.Disc.state c.flip.new.disc) c.flip.ensures.counts.size c.in_ok-fill.ensures.ok c.flip.ensures.any c.flip.ensures.durable
    c.flip.result durable

pub returns-clause-one_survives : goal.returns-clause-one_survives
returns-clause-one_survives g c = λ gate durable.
    survives_flipping c.args.self.now c.args.image.now (g.D.Disc.state c.args.disc.now) (g.D.Disc.state c.fill.new.disc)
    (λ b told. (c.size-size.ensures.blocks b told).0 ∙ c.size-size.ensures.size) c.in_ok-fill.ensures.counts.size c.in_ok-fill.ensures.dirties.durable
    (g.D.Disc.state c.flip.new.disc) c.flip.ensures.counts.size c.in_ok-fill.ensures.ok c.flip.ensures.any c.flip.ensures.durable
    c.flip.result c.requires.gate c.in_ok-fill.ensures.dirties.here c.flip.ensures.gate_failed gate durable
