use Rattle.std.proofs.Common.{refl}
use Rattle.g_online.specs.declared.change.Change.TheVariants.{SetIntent}
use Rattle.g_online.proofs.RecordLemmas.{intent_ready}
use Rattle.g_online.proofs.StepLemmas.{applied, kept_behind, marked_for}
use Rattle.g_online.proofs.online.Online.set_intent.Goals as goal

pub commit-requires-clause-marked : goal.commit-requires-clause-marked
commit-requires-clause-marked g c =
    marked_for (SetIntent c.args.intent) (g.D.Disc.state c.self.inside.disc) _ _
    (intent_ready c.args.intent (g.D.Disc.state c.self.inside.disc) _ c.changed.new.self c.args.self.now c.self.view_is c.self.invariant c.requires.allowed
    c.changed.ensures.marks c.changed.ensures.remembers c.changed.ensures.covers)
    c.self.inside.online refl

pub invariant_of-self : goal.invariant_of-self
invariant_of-self g c =
    kept_behind (SetIntent c.args.intent) (g.D.Disc.state c.self.inside.disc) (g.D.Disc.state c.commit.new.disc) _ _ c.commit.new.slots c.commit.new.pages
    (intent_ready c.args.intent (g.D.Disc.state c.self.inside.disc) _ c.changed.new.self c.args.self.now c.self.view_is c.self.invariant c.requires.allowed
    c.changed.ensures.marks c.changed.ensures.remembers c.changed.ensures.covers)
    c.commit.new.live c.commit.result c.self.inside.online refl c.commit.ensures.ok c.commit.ensures.counts c.commit.ensures.whole
    c.commit.ensures.lives c.commit.ensures.dies

pub returns : goal.returns
returns g c =
    applied (SetIntent c.args.intent) (g.D.Disc.state c.self.inside.disc) (g.D.Disc.state c.commit.new.disc) _ _ c.commit.new.slots c.commit.new.pages
    (intent_ready c.args.intent (g.D.Disc.state c.self.inside.disc) _ c.changed.new.self c.args.self.now c.self.view_is c.self.invariant c.requires.allowed
    c.changed.ensures.marks c.changed.ensures.remembers c.changed.ensures.covers)
    c.args.self.now c.self.view_is c.commit.new.live c.commit.result c.self.inside.online refl c.commit.ensures.ok c.commit.ensures.stopped
    c.commit.ensures.counts c.commit.ensures.whole
    c.commit.ensures.only c.commit.ensures.lives c.commit.ensures.dies
