use Rattle.std.proofs.Common.{◌≢◌, ◌<◌, ℕ, List, All, AllPairs, refl, subst, sym}
use Rattle.g_blocks.specs.Pool.{IsTaken}
use Rattle.g_online.specs.declared.change.Change.TheVariants.{Unload}
use Rattle.g_online.specs.Unloading.{places_off}
use Rattle.g_online.specs.Invariant.{Memory}
use Rattle.g_online.proofs.MemoryLemmas.{memory}
use Rattle.g_online.proofs.StepLemmas.{IsReady, applied, copies_for, kept_behind, marked_for}
use Rattle.g_online.proofs.UnloadLemmas.{is_unloadable, off_blocks, unload_ready}
use Rattle.g_online.proofs.online.Online.unload.Goals as goal
use Rattle.g_online.proofs.online.Online.unload.Goals.{After-take_off}

abbrev before : (g : _) (c : After-take_off g) → Memory
before g c =
    memory c.self.inside.slots c.self.inside.pages c.self.inside.pool c.self.inside.tree.users c.self.inside.tree.files c.self.inside.head
    c.self.inside.online c.self.inside.pins c.self.inside.changed c.self.inside.touched c.self.inside.live

ready : (g : _) (c : After-take_off g) → IsReady (Unload c.args.numbers.now) (g.D.Disc.state c.self.inside.disc) (before g c) (record (before g c) {
  head = c.kept_head-self-inside.result;
  online = c.take_off.new.online;
  pool = c.take_off.new.pool;
  pages = c.take_off.new.pages;
})
ready g c =
    unload_ready c.args.numbers.now (g.D.Disc.state c.self.inside.disc) _ c.is_some-pinned.result c.kept_head-self-inside.result c.take_off.new.online
    c.take_off.new.pool c.changed.new.self c.take_off.new.pages c.as_slice.result.now c.self.inside.online c.args.self.now
    c.is_some-pinned.ensures c.kept_head-self-inside.ensures c.as_slice.ensures refl c.take_off.ensures.copies
    c.take_off.ensures.blocks c.take_off.ensures.marks c.self.view_is c.self.invariant c.requires.allowed
    c.changed.ensures.marks c.changed.ensures.remembers c.changed.ensures.covers

pub take_off-requires-clause-once : goal.take_off-requires-clause-once
take_off-requires-clause-once g c =
    subst (λ (ns : List ℕ). AllPairs (λ m n. m ≢ n) ns) (sym c.as_slice.ensures) (is_unloadable c.args.numbers.now (g.D.Disc.state c.self.inside.disc) _
    c.args.self.now c.self.view_is c.self.invariant c.requires.allowed).once

pub take_off-requires-clause-below : goal.take_off-requires-clause-below
take_off-requires-clause-below g c =
    subst (λ (ns : List ℕ). All (λ n. n < 1024) ns) (sym c.as_slice.ensures) (is_unloadable c.args.numbers.now (g.D.Disc.state c.self.inside.disc) _
    c.args.self.now c.self.view_is c.self.invariant c.requires.allowed).below

pub take_off-requires-clause-apart : goal.take_off-requires-clause-apart
take_off-requires-clause-apart g c =
    subst (λ (ns : List ℕ). AllPairs (λ j k. j ≢ k) (places_off ns c.self.inside.online)) (sym c.as_slice.ensures) (off_blocks c.args.numbers.now
    (g.D.Disc.state c.self.inside.disc) _ (is_unloadable c.args.numbers.now (g.D.Disc.state c.self.inside.disc) _ c.args.self.now c.self.view_is
    c.self.invariant c.requires.allowed)).0

pub take_off-requires-clause-taken : goal.take_off-requires-clause-taken
take_off-requires-clause-taken g c =
    subst (λ (ns : List ℕ). All (IsTaken c.self.inside.pool) (places_off ns c.self.inside.online)) (sym c.as_slice.ensures) (off_blocks
    c.args.numbers.now (g.D.Disc.state c.self.inside.disc) _ (is_unloadable c.args.numbers.now (g.D.Disc.state c.self.inside.disc) _ c.args.self.now
    c.self.view_is c.self.invariant c.requires.allowed)).1

pub commit-requires-clause-marked : goal.commit-requires-clause-marked
commit-requires-clause-marked g c =
    marked_for (Unload c.args.numbers.now) (g.D.Disc.state c.self.inside.disc) _ _
    (ready g (goal.at.commit-requires-clause-marked g c).After-take_off)
    c.take_off.new.online refl

pub commit-requires-clause-copies : goal.commit-requires-clause-copies
commit-requires-clause-copies g c =
    copies_for (Unload c.args.numbers.now) (g.D.Disc.state c.self.inside.disc) _ _
    (ready g (goal.at.commit-requires-clause-copies g c).After-take_off)
    c.take_off.new.online refl

pub invariant_of-self : goal.invariant_of-self
invariant_of-self g c =
    kept_behind (Unload c.args.numbers.now) (g.D.Disc.state c.self.inside.disc) (g.D.Disc.state c.commit.new.disc) _ _ c.commit.new.slots c.commit.new.pages
    (ready g (goal.at.invariant_of-self g c).After-take_off)
    c.commit.new.live c.commit.result c.take_off.new.online refl c.commit.ensures.ok c.commit.ensures.counts c.commit.ensures.whole
    c.commit.ensures.lives c.commit.ensures.dies

pub returns : goal.returns
returns g c =
    applied (Unload c.args.numbers.now) (g.D.Disc.state c.self.inside.disc) (g.D.Disc.state c.commit.new.disc) _ _ c.commit.new.slots c.commit.new.pages
    (ready g (goal.at.returns g c).After-take_off)
    c.args.self.now c.self.view_is c.commit.new.live c.commit.result c.take_off.new.online refl c.commit.ensures.ok c.commit.ensures.stopped
    c.commit.ensures.counts c.commit.ensures.whole
    c.commit.ensures.only c.commit.ensures.lives c.commit.ensures.dies
