use Rattle.std.proofs.Common.{ℕ, ◌+◌, ◌∙◌, List, [], ◌∷◌, ◌++◌, ap, refl}
use Rattle.g_entry.specs.declared.user_rec.UserRec.{UserRec}
use Rattle.g_online.specs.declared.change.Change.TheVariants.{AddUser}
use Rattle.g_online.specs.Invariant.{Memory}
use Rattle.g_online.proofs.MemoryLemmas.{memory}
use Rattle.g_online.proofs.StepLemmas.{IsReady, applied, kept_behind, marked_for, not_applied}
use Rattle.g_online.proofs.UserLemmas.{added_ready, added_rules, number_fits}
use Rattle.g_online.proofs.online.Online.add_user.Goals as goal
use Rattle.g_online.proofs.online.Online.add_user.Goals.{After-mark_user_changed}

abbrev before : (g : _) (c : After-mark_user_changed g) → Memory
before g c =
    memory c.self.inside.slots c.self.inside.pages c.self.inside.pool c.self.inside.tree.users c.self.inside.tree.files c.self.inside.head
    c.self.inside.online c.self.inside.pins c.self.inside.changed c.self.inside.touched c.self.inside.live

ready : (g : _) (c : After-mark_user_changed g) → IsReady (AddUser c.args.user.now) (g.D.Disc.state c.self.inside.disc) (before g c) (record (before g c) {
  head = c.kept_head-self-inside.result;
  users = c.add_user.new.self.users;
  files = c.add_user.new.self.files;
  pages = c.changed-2.new.self;
  changed = c.mark_user_changed.new.changed;
  touched = c.mark_user_changed.new.touched;
})
ready g c =
    added_ready c.args.user.now c.copy.result (g.D.Disc.state c.self.inside.disc) _ c.is_some-pinned.result c.kept_head-self-inside.result
    c.add_user.new.self.users c.add_user.new.self.files
    (1 + c.from.result) c.changed.new.self c.changed-2.new.self c.mark_user_changed.new.changed c.mark_user_changed.new.touched c.args.self.now c.copy.ensures
    c.is_some-pinned.ensures c.kept_head-self-inside.ensures (c.add_user.ensures.users ∙ ap (λ (us : List UserRec).
    us ++ c.copy.result ∷ []) c.reserve.ensures.users)
    (c.add_user.ensures.files ∙ c.reserve.ensures.files) (ap (λ (n : ℕ). 1 + n) c.from.ensures) c.mark_user_changed.ensures.changed c.mark_user_changed.ensures.touched
    c.self.view_is c.self.invariant c.requires.allowed
    c.changed.ensures.marks c.changed.ensures.remembers c.changed.ensures.covers c.changed-2.ensures.marks c.changed-2.ensures.remembers
    c.changed-2.ensures.covers

pub returns-in-Err : goal.returns-in-Err
returns-in-Err g c =
    let m : Memory = memory c.self.inside.slots c.self.inside.pages c.self.inside.pool c.self.inside.tree.users c.self.inside.tree.files c.self.inside.head
    c.self.inside.online c.self.inside.pins c.self.inside.changed c.self.inside.touched c.self.inside.live in
    not_applied (AddUser c.args.user.now) (g.D.Disc.state c.self.inside.disc) m (record m {
      users = c.reserve.new.self.users;
      files = c.reserve.new.self.files;
    }) c.args.self.now
    c.self.view_is c.self.invariant (λ i. record m { users = c.reserve.ensures.users i; files = c.reserve.ensures.files i }) refl refl

pub add_user-requires-clause-rules : goal.add_user-requires-clause-rules
add_user-requires-clause-rules g c =
    added_rules c.args.user.now c.copy.result (g.D.Disc.state c.self.inside.disc) _ c.reserve.new.self.users c.reserve.new.self.files c.args.self.now
    c.copy.ensures c.reserve.ensures.users c.reserve.ensures.files c.self.view_is c.self.invariant c.requires.allowed

pub mark_user_changed-requires : goal.mark_user_changed-requires
mark_user_changed-requires g c = number_fits c.args.user.now (g.D.Disc.state c.self.inside.disc) _ c.args.self.now c.self.view_is c.self.invariant c.requires.allowed

pub commit-requires-clause-marked : goal.commit-requires-clause-marked
commit-requires-clause-marked g c =
    marked_for _ _ _ _ (ready g (goal.at.commit-requires-clause-marked g c).After-mark_user_changed) c.self.inside.online refl

pub invariant_of-self-2 : goal.invariant_of-self-2
invariant_of-self-2 g c =
    kept_behind _ _ _ _ _ _ _ (ready g (goal.at.invariant_of-self-2 g c).After-mark_user_changed) c.commit.new.live c.commit.result c.self.inside.online
    refl
    c.commit.ensures.ok c.commit.ensures.counts c.commit.ensures.whole c.commit.ensures.lives c.commit.ensures.dies

pub returns : goal.returns
returns g c =
    applied _ _ _ _ _ _ _ (ready g (goal.at.returns g c).After-mark_user_changed) c.args.self.now c.self.view_is c.commit.new.live c.commit.result c.self.inside.online
    refl
    c.commit.ensures.ok c.commit.ensures.stopped c.commit.ensures.counts c.commit.ensures.whole c.commit.ensures.only c.commit.ensures.lives
    c.commit.ensures.dies
