use Rattle.std.proofs.Common.{ℕ, ◌+◌, ◌∙◌, ap, refl}
use Rattle.g_tree.specs.State.{with_file}
use Rattle.g_online.specs.declared.change.Change.TheVariants.{SetFile}
use Rattle.g_online.specs.Invariant.{Memory}
use Rattle.g_online.proofs.MemoryLemmas.{memory}
use Rattle.g_online.proofs.StepLemmas.{IsReady, applied, copies_for, kept_behind, marked_for, not_applied}
use Rattle.g_online.proofs.FileLemmas.{block_fits, file_ready, file_rules, owner_fits}
use Rattle.g_online.proofs.online.Online.set_file.Goals as goal
use Rattle.g_online.proofs.online.Online.set_file.Goals.{After-mark_user_changed}

abbrev before : (g : _) (c : After-mark_user_changed g) → Memory
before g c =
    memory c.self.inside.slots c.self.inside.pages c.self.inside.pool c.self.inside.tree.users c.self.inside.tree.files c.self.inside.head
    c.self.inside.online c.self.inside.pins c.self.inside.changed c.self.inside.touched c.self.inside.live

ready : (g : _) (c : After-mark_user_changed g) → IsReady (SetFile c.args.rec) (g.D.Disc.state c.self.inside.disc) (before g c) (record (before g c) {
  head = c.carry_head.new.head;
  users = c.put.new.self.users;
  files = c.put.new.self.files;
  pages = c.changed.new.self;
  changed = c.mark_user_changed.new.changed;
  touched = c.mark_user_changed.new.touched;
})
ready g c =
    file_ready c.args.rec (g.D.Disc.state c.self.inside.disc) _ c.is_some-pinned.result c.carry_head.new.head c.put.new.self.users c.put.new.self.files
    (64 + c.from.result) c.carry_head.new.pages c.changed.new.self c.mark_user_changed.new.changed c.mark_user_changed.new.touched c.args.self.now
    c.is_some-pinned.ensures c.carry_head.ensures.head (c.put.ensures.users ∙ c.reserve.ensures.users)
    (c.put.ensures.files ∙ ap (with_file c.args.rec) c.reserve.ensures.files) (ap (λ (n : ℕ). 64 + n) c.from.ensures) c.mark_user_changed.ensures.changed
    c.mark_user_changed.ensures.touched
    c.self.view_is c.self.invariant c.requires.allowed
    c.carry_head.ensures.keeps c.carry_head.ensures.remembers c.carry_head.ensures.covers c.changed.ensures.marks c.changed.ensures.remembers
    c.changed.ensures.covers

pub returns-in-Err : goal.returns-in-Err
returns-in-Err g c =
    let m : Memory = memory c.self.inside.slots c.self.inside.pages c.self.inside.pool c.self.inside.tree.users c.self.inside.tree.files c.self.inside.head
    c.self.inside.online c.self.inside.pins c.self.inside.changed c.self.inside.touched c.self.inside.live in
    not_applied (SetFile c.args.rec) (g.D.Disc.state c.self.inside.disc) m (record m {
      users = c.reserve.new.self.users;
      files = c.reserve.new.self.files;
    }) c.args.self.now
    c.self.view_is c.self.invariant (λ i. record m { users = c.reserve.ensures.users i; files = c.reserve.ensures.files i }) refl refl

pub put-requires-clause-rules : goal.put-requires-clause-rules
put-requires-clause-rules g c =
    file_rules c.args.rec (g.D.Disc.state c.self.inside.disc) _ c.reserve.new.self.users c.reserve.new.self.files c.args.self.now
    c.reserve.ensures.users c.reserve.ensures.files c.self.view_is c.self.invariant c.requires.allowed

pub changed-requires : goal.changed-requires
changed-requires g c =
    block_fits c.args.rec (g.D.Disc.state c.self.inside.disc) _ c.from.result c.args.self.now c.from.ensures c.self.view_is c.self.invariant
    c.requires.allowed

pub mark_user_changed-requires : goal.mark_user_changed-requires
mark_user_changed-requires g c = owner_fits c.args.rec (g.D.Disc.state c.self.inside.disc) _ c.args.self.now c.self.view_is c.self.invariant c.requires.allowed

pub commit-requires-clause-marked : goal.commit-requires-clause-marked
commit-requires-clause-marked g c =
    marked_for _ _ _ _ (ready g (goal.at.commit-requires-clause-marked g c).After-mark_user_changed) c.self.inside.online refl

pub commit-requires-clause-copies : goal.commit-requires-clause-copies
commit-requires-clause-copies g c =
    copies_for _ _ _ _ (ready g (goal.at.commit-requires-clause-copies g c).After-mark_user_changed) c.self.inside.online refl

pub invariant_of-self-2 : goal.invariant_of-self-2
invariant_of-self-2 g c =
    kept_behind _ _ _ _ _ _ _ (ready g (goal.at.invariant_of-self-2 g c).After-mark_user_changed) c.commit.new.live c.commit.result c.self.inside.online
    refl
    c.commit.ensures.ok c.commit.ensures.counts c.commit.ensures.whole c.commit.ensures.lives c.commit.ensures.dies

pub returns : goal.returns
returns g c =
    applied _ _ _ _ _ _ _ (ready g (goal.at.returns g c).After-mark_user_changed) c.args.self.now c.self.view_is c.commit.new.live c.commit.result c.self.inside.online
    refl
    c.commit.ensures.ok c.commit.ensures.stopped c.commit.ensures.counts c.commit.ensures.whole c.commit.ensures.only c.commit.ensures.lives
    c.commit.ensures.dies
