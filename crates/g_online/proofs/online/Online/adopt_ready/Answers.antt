use Rattle.std.proofs.Common.{refl}
use Rattle.g_online.specs.declared.change.Change.TheVariants.{Adopt}
use Rattle.g_online.proofs.AdoptedLemmas.{adopting_is, adopting_ready, may_note, to_adopt}
use Rattle.g_online.proofs.NotedLemmas.{noted_by, noted_kept}
use Rattle.g_online.proofs.StepLemmas.{copies_for, marked_for}
use Rattle.g_online.proofs.online.Online.adopt_ready.Goals as goal

pub commit-requires-clause-marked : goal.commit-requires-clause-marked
commit-requires-clause-marked g c =
    marked_for (Adopt c.args.last c.requires.ready.0) (g.D.Disc.state c.self.inside.disc) _ _
    (adopting_ready c.args.last c.requires.ready.0 (g.D.Disc.state c.self.inside.disc) _ c.ready.inside.tree.users c.ready.inside.tree.files
    (to_adopt c.args.last c.requires.ready.0 (g.D.Disc.state c.self.inside.disc) _ c.args.self.now c.args.ready c.ready.inside.tree.users
    c.ready.inside.tree.files
    c.self.view_is c.self.invariant c.ready.view_is c.requires.live c.requires.none c.requires.ready.1)
    c.all_changed.new.self c.all_changed.ensures.marks c.all_changed.ensures.remembers c.all_changed.ensures.covers)
    c.self.inside.online refl

pub commit-requires-clause-copies : goal.commit-requires-clause-copies
commit-requires-clause-copies g c =
    copies_for (Adopt c.args.last c.requires.ready.0) (g.D.Disc.state c.self.inside.disc) _ _
    (adopting_ready c.args.last c.requires.ready.0 (g.D.Disc.state c.self.inside.disc) _ c.ready.inside.tree.users c.ready.inside.tree.files
    (to_adopt c.args.last c.requires.ready.0 (g.D.Disc.state c.self.inside.disc) _ c.args.self.now c.args.ready c.ready.inside.tree.users
    c.ready.inside.tree.files
    c.self.view_is c.self.invariant c.ready.view_is c.requires.live c.requires.none c.requires.ready.1)
    c.all_changed.new.self c.all_changed.ensures.marks c.all_changed.ensures.remembers c.all_changed.ensures.covers)
    c.self.inside.online refl

pub invariant_of-self : goal.invariant_of-self
invariant_of-self g c =
    let may =
    may_note c.args.last c.requires.ready.0 (g.D.Disc.state c.self.inside.disc) _ c.ready.inside.tree.users c.ready.inside.tree.files
    (to_adopt c.args.last c.requires.ready.0 (g.D.Disc.state c.self.inside.disc) _ c.args.self.now c.args.ready c.ready.inside.tree.users
    c.ready.inside.tree.files
    c.self.view_is c.self.invariant c.ready.view_is c.requires.live c.requires.none c.requires.ready.1)
    c.all_changed.new.self c.new-self-inside.result c.new-self-inside.ensures c.all_changed.ensures.marks c.all_changed.ensures.remembers
    c.all_changed.ensures.covers in
    noted_kept _ _ _ _ _ _ _ may (g.D.Disc.state c.commit.new.disc) c.commit.new.slots c.commit.new.pages c.commit.new.live c.commit.result c.self.inside.online
    refl
    c.commit.ensures.ok c.commit.ensures.counts c.commit.ensures.whole c.commit.ensures.lives c.commit.ensures.dies

pub returns : goal.returns
returns g c = λ copies for.
    let may =
    may_note c.args.last copies (g.D.Disc.state c.self.inside.disc) _ c.ready.inside.tree.users c.ready.inside.tree.files
    (to_adopt c.args.last copies (g.D.Disc.state c.self.inside.disc) _ c.args.self.now c.args.ready c.ready.inside.tree.users c.ready.inside.tree.files
    c.self.view_is c.self.invariant c.ready.view_is c.requires.live c.requires.none for)
    c.all_changed.new.self c.new-self-inside.result c.new-self-inside.ensures c.all_changed.ensures.marks c.all_changed.ensures.remembers
    c.all_changed.ensures.covers in
    adopting_is c.args.last copies c.new-self-inside.result _ c.args.self.now _ c.commit.result c.new-self-inside.ensures c.self.view_is
    (noted_by _ _ _ _ _ _ _ may (g.D.Disc.state c.commit.new.disc) c.commit.new.slots c.commit.new.pages c.commit.new.live c.commit.result c.self.inside.online
    refl
    c.commit.ensures.ok c.commit.ensures.stopped c.commit.ensures.counts c.commit.ensures.whole c.commit.ensures.only c.commit.ensures.lives
    c.commit.ensures.dies)
