use Rattle.std.proofs.Common.{Err, refl, subst}
use Rattle.g_disc_contents.specs.Facts.{OnlineFacts}
use Rattle.g_online.specs.declared.change.Change.TheVariants.{Adopt}
use Rattle.g_online.specs.declared.fault.OnlineFault.TheVariants.{NoMemory}
use Rattle.g_online.specs.Outcomes.{IsApplied}
use Rattle.g_online.specs.Invariant.{Memory}
use Rattle.g_online.proofs.MemoryLemmas.{memory}
use Rattle.g_online.proofs.StepLemmas.{IsReady, applied, copies_for, kept_behind, marked_for, not_applied}
use Rattle.g_online.proofs.AdoptLemmas.{adopt_ready, adopt_rules}
use Rattle.g_online.proofs.online.Online.adopt.Goals as goal
use Rattle.g_online.proofs.online.Online.adopt.Goals.{After-all_changed}

abbrev before : (g : _) (c : After-all_changed g) → Memory
before g c =
    memory c.self.inside.slots c.self.inside.pages c.self.inside.pool c.self.inside.tree.users c.self.inside.tree.files c.self.inside.head
    c.self.inside.online c.self.inside.pins c.self.inside.changed c.self.inside.touched c.self.inside.live

ready : (g : _) (c : After-all_changed g) → IsReady (Adopt c.args.last c.args.copies.now) (g.D.Disc.state c.self.inside.disc) (before g c) (record (before g c) {
  head = c.kept_head-self-inside.result;
  users = c.in-Ok.tree.users;
  files = c.in-Ok.tree.files;
  pages = c.all_changed.new.self;
})
ready g c =
    adopt_ready c.args.last c.args.copies.now c.as_slice.result.now (g.D.Disc.state c.self.inside.disc) _ c.is_some.result c.kept_head-self-inside.result
    c.in-Ok.tree.users c.in-Ok.tree.files c.all_changed.new.self c.args.self.now
    c.as_slice.ensures c.is_some.ensures c.kept_head-self-inside.ensures c.in-Ok.ensures.users c.in-Ok.ensures.files
    c.self.view_is c.self.invariant c.requires.allowed
    c.all_changed.ensures.marks c.all_changed.ensures.remembers c.all_changed.ensures.covers

pub noted-requires : goal.noted-requires
noted-requires g c =
    adopt_rules c.args.last c.args.copies.now c.as_slice.result.now (g.D.Disc.state c.self.inside.disc) _ c.args.self.now c.as_slice.ensures c.self.view_is
    c.self.invariant c.requires.allowed

pub returns-in-Err : goal.returns-in-Err
returns-in-Err g c =
    subst (λ (o : OnlineFacts). IsApplied (Adopt c.args.last c.args.copies.now) c.args.self.now o (Err NoMemory)) c.self.view_is
    (not_applied (Adopt c.args.last c.args.copies.now) (g.D.Disc.state c.self.inside.disc) _ _ c.args.self.now c.self.view_is c.self.invariant refl refl refl)

pub commit-requires-clause-marked : goal.commit-requires-clause-marked
commit-requires-clause-marked g c =
    marked_for (Adopt c.args.last c.args.copies.now) (g.D.Disc.state c.self.inside.disc) _ _
    (ready g (goal.at.commit-requires-clause-marked g c).After-all_changed)
    c.self.inside.online refl

pub commit-requires-clause-copies : goal.commit-requires-clause-copies
commit-requires-clause-copies g c =
    copies_for (Adopt c.args.last c.args.copies.now) (g.D.Disc.state c.self.inside.disc) _ _
    (ready g (goal.at.commit-requires-clause-copies g c).After-all_changed)
    c.self.inside.online refl

pub invariant_of-self : goal.invariant_of-self
invariant_of-self g c =
    kept_behind (Adopt c.args.last c.args.copies.now) (g.D.Disc.state c.self.inside.disc) (g.D.Disc.state c.commit.new.disc) _ _ c.commit.new.slots
    c.commit.new.pages
    (ready g (goal.at.invariant_of-self g c).After-all_changed)
    c.commit.new.live c.commit.result c.self.inside.online refl c.commit.ensures.ok c.commit.ensures.counts c.commit.ensures.whole
    c.commit.ensures.lives c.commit.ensures.dies

pub returns : goal.returns
returns g c =
    applied (Adopt c.args.last c.args.copies.now) (g.D.Disc.state c.self.inside.disc) (g.D.Disc.state c.commit.new.disc) _ _ c.commit.new.slots
    c.commit.new.pages
    (ready g (goal.at.returns g c).After-all_changed)
    c.args.self.now c.self.view_is c.commit.new.live c.commit.result c.self.inside.online refl c.commit.ensures.ok c.commit.ensures.stopped
    c.commit.ensures.counts c.commit.ensures.whole
    c.commit.ensures.only c.commit.ensures.lives c.commit.ensures.dies
