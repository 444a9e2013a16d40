use Rattle.std.proofs.Common.{ℕ, ◌+◌, ap, refl}
use Rattle.g_online.specs.declared.change.Change.TheVariants.{SetUser}
use Rattle.g_online.specs.Invariant.{Memory}
use Rattle.g_online.proofs.RecordLemmas.{user_ready, user_rules}
use Rattle.g_online.proofs.MemoryLemmas.{memory}
use Rattle.g_online.proofs.StepLemmas.{IsReady, applied, kept_behind, marked_for}
use Rattle.g_online.proofs.online.Online.set_user.Goals as goal
use Rattle.g_online.proofs.online.Online.set_user.Goals.{After-changed-2}

abbrev before : (g : _) (c : After-changed-2 g) → Memory
before g c =
    memory c.self.inside.slots c.self.inside.pages c.self.inside.pool c.self.inside.tree.users c.self.inside.tree.files c.self.inside.head
    c.self.inside.online c.self.inside.pins c.self.inside.changed c.self.inside.touched c.self.inside.live

ready : (g : _) (c : After-changed-2 g) → IsReady (SetUser c.args.user.now) (g.D.Disc.state c.self.inside.disc) (before g c) (record (before g c) {
  head = c.kept_head-self-inside.result;
  users = c.set_user.new.self.users;
  files = c.set_user.new.self.files;
  pages = c.changed-2.new.self;
})
ready g c =
    user_ready c.args.user.now c.copy.result (g.D.Disc.state c.self.inside.disc) _ c.is_some.result c.kept_head-self-inside.result c.set_user.new.self.users
    c.set_user.new.self.files
    (1 + c.from.result) c.changed.new.self c.changed-2.new.self c.args.self.now c.copy.ensures c.is_some.ensures
    c.kept_head-self-inside.ensures c.set_user.ensures.users c.set_user.ensures.files (ap (λ (n : ℕ). 1 + n) c.from.ensures) c.self.view_is c.self.invariant
    c.requires.allowed
    c.changed.ensures.marks c.changed.ensures.remembers c.changed.ensures.covers c.changed-2.ensures.marks c.changed-2.ensures.remembers
    c.changed-2.ensures.covers

pub set_user-requires-clause-rules : goal.set_user-requires-clause-rules
set_user-requires-clause-rules g c =
    (user_rules c.args.user.now c.copy.result (g.D.Disc.state c.self.inside.disc) _ c.args.self.now c.copy.ensures c.self.view_is c.self.invariant
    c.requires.allowed).2

pub commit-requires-clause-marked : goal.commit-requires-clause-marked
commit-requires-clause-marked g c =
    marked_for _ _ _ _ (ready g (goal.at.commit-requires-clause-marked g c).After-changed-2) c.self.inside.online refl

pub invariant_of-self : goal.invariant_of-self
invariant_of-self g c =
    kept_behind _ _ _ _ _ _ _ (ready g (goal.at.invariant_of-self g c).After-changed-2) c.commit.new.live c.commit.result c.self.inside.online
    refl
    c.commit.ensures.ok c.commit.ensures.counts c.commit.ensures.whole c.commit.ensures.lives c.commit.ensures.dies

pub returns : goal.returns
returns g c =
    applied _ _ _ _ _ _ _ (ready g (goal.at.returns g c).After-changed-2) c.args.self.now c.self.view_is c.commit.new.live c.commit.result c.self.inside.online
    refl
    c.commit.ensures.ok c.commit.ensures.stopped c.commit.ensures.counts c.commit.ensures.whole c.commit.ensures.only c.commit.ensures.lives
    c.commit.ensures.dies
