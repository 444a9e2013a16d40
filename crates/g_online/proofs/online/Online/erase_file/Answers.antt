use Rattle.std.proofs.Common.{ℕ, ◌+◌, ap, arith, refl}
use Rattle.std.specs.Prelude.{option_copied}
use Rattle.g_entry.specs.declared.file_rec.FileRec.{FileRec}
use Rattle.g_online.specs.declared.change.Change.TheVariants.{EraseFile}
use Rattle.g_online.specs.Invariant.{Memory}
use Rattle.g_online.proofs.MemoryLemmas.{memory}
use Rattle.g_online.proofs.StepLemmas.{IsReady, applied, copies_for, kept_behind, marked_for}
use Rattle.g_online.proofs.EraseLemmas.{erased_ready, is_going, it_is, it_is_there, its_blocks, number_below, owner_below, pool_after}
use Rattle.g_online.proofs.online.Online.erase_file.Goals as goal
use Rattle.g_online.proofs.online.Online.erase_file.Goals.{After-mark_user_changed}

abbrev before : (g : _) (c : After-mark_user_changed g) → Memory
before g c =
    memory c.self.inside.slots c.self.inside.pages c.self.inside.pool c.self.inside.tree.users c.self.inside.tree.files c.self.inside.head
    c.self.inside.online c.self.inside.pins c.self.inside.changed c.self.inside.touched c.self.inside.live

ready : (g : _) (c : After-mark_user_changed g) → IsReady (EraseFile c.args.number) (g.D.Disc.state c.self.inside.disc) (before g c) (record (before g c) {
  head = c.kept_head-self-inside.result;
  users = c.erase.new.self.users;
  files = c.erase.new.self.files;
  online = c.forget.new.self;
  pool = c.give_unless.new.pool;
  pages = c.changed-2.new.self;
  changed = c.mark_user_changed.new.changed;
  touched = c.mark_user_changed.new.touched;
})
ready g c =
    erased_ready c.args.number (g.D.Disc.state c.self.inside.disc) _ c.is_some-pinned.result c.kept_head-self-inside.result c.erase.new.self.users
    c.erase.new.self.files c.forget.new.self c.give_unless.new.pool (64 + c.from.result) c.changed.new.self c.changed-2.new.self
    c.mark_user_changed.new.changed c.mark_user_changed.new.touched c.in-Some.file.now.owner c.args.self.now (is_going c.args.number (g.D.Disc.state c.self.inside.disc) _
    c.args.self.now c.self.view_is c.self.invariant c.requires.allowed) (ap (λ (r : FileRec). r.owner) (it_is c.args.number (g.D.Disc.state
    c.self.inside.disc) _ c.in-Some.file.now (is_going c.args.number (g.D.Disc.state c.self.inside.disc) _ c.args.self.now c.self.view_is c.self.invariant
    c.requires.allowed) c.in-Some.ensures.value)) c.is_some-pinned.ensures c.kept_head-self-inside.ensures
    c.erase.ensures.users c.erase.ensures.files c.forget.ensures (ap (λ (n : ℕ). 64 + n) c.from.ensures)
    c.mark_user_changed.ensures.changed c.mark_user_changed.ensures.touched
    (pool_after c.args.number (g.D.Disc.state c.self.inside.disc) _ (is_going c.args.number (g.D.Disc.state c.self.inside.disc) _ c.args.self.now
    c.self.view_is c.self.invariant c.requires.allowed) c.in-Some.file.now.stamp (option_copied c.get.result) c.is_kept-keeps.result
    c.give_unless.new.pool (ap (λ (r : FileRec). r.stamp) (it_is c.args.number (g.D.Disc.state c.self.inside.disc) _ c.in-Some.file.now (is_going
    c.args.number (g.D.Disc.state c.self.inside.disc) _ c.args.self.now c.self.view_is c.self.invariant c.requires.allowed) c.in-Some.ensures.value))
    c.get.ensures c.is_kept-keeps.ensures c.give_unless.ensures)
    c.self.view_is c.self.invariant c.requires.allowed
    c.changed.ensures.marks c.changed.ensures.remembers c.changed.ensures.covers c.changed-2.ensures.marks c.changed-2.ensures.remembers
    c.changed-2.ensures.covers

pub unreachable-requires : goal.unreachable-requires
unreachable-requires g c =
    it_is_there c.args.number (g.D.Disc.state c.self.inside.disc) _ (is_going c.args.number (g.D.Disc.state c.self.inside.disc) _ c.args.self.now
    c.self.view_is c.self.invariant c.requires.allowed) c.in_default.ensures.value

pub give_unless-requires-clause-apart : goal.give_unless-requires-clause-apart
give_unless-requires-clause-apart g c = λ free.
    (its_blocks c.args.number (g.D.Disc.state c.self.inside.disc) _ (is_going c.args.number (g.D.Disc.state c.self.inside.disc) _ c.args.self.now
    c.self.view_is c.self.invariant c.requires.allowed) c.in-Some.file.now.stamp (option_copied c.get.result) c.is_kept-keeps.result (ap (λ (r : FileRec).
    r.stamp) (it_is c.args.number (g.D.Disc.state c.self.inside.disc) _ c.in-Some.file.now (is_going c.args.number (g.D.Disc.state c.self.inside.disc) _
    c.args.self.now c.self.view_is c.self.invariant c.requires.allowed) c.in-Some.ensures.value)) c.get.ensures c.is_kept-keeps.ensures free).0

pub give_unless-requires-clause-taken : goal.give_unless-requires-clause-taken
give_unless-requires-clause-taken g c = λ free.
    (its_blocks c.args.number (g.D.Disc.state c.self.inside.disc) _ (is_going c.args.number (g.D.Disc.state c.self.inside.disc) _ c.args.self.now
    c.self.view_is c.self.invariant c.requires.allowed) c.in-Some.file.now.stamp (option_copied c.get.result) c.is_kept-keeps.result (ap (λ (r : FileRec).
    r.stamp) (it_is c.args.number (g.D.Disc.state c.self.inside.disc) _ c.in-Some.file.now (is_going c.args.number (g.D.Disc.state c.self.inside.disc) _
    c.args.self.now c.self.view_is c.self.invariant c.requires.allowed) c.in-Some.ensures.value)) c.get.ensures c.is_kept-keeps.ensures free).1

pub forget-requires : goal.forget-requires
forget-requires g c =
    let below =
    number_below c.args.number (g.D.Disc.state c.self.inside.disc) _ c.args.number refl (is_going c.args.number (g.D.Disc.state c.self.inside.disc) _
    c.args.self.now c.self.view_is c.self.invariant c.requires.allowed) in
    omega (arith, below)

pub changed-requires-2 : goal.changed-requires-2
changed-requires-2 g c =
    number_below c.args.number (g.D.Disc.state c.self.inside.disc) _ c.from.result c.from.ensures (is_going c.args.number (g.D.Disc.state c.self.inside.disc)
    _ c.args.self.now c.self.view_is c.self.invariant c.requires.allowed)

pub mark_user_changed-requires : goal.mark_user_changed-requires
mark_user_changed-requires g c =
    owner_below c.args.number (g.D.Disc.state c.self.inside.disc) _ c.in-Some.file.now.owner (is_going c.args.number (g.D.Disc.state c.self.inside.disc) _
    c.args.self.now c.self.view_is c.self.invariant c.requires.allowed) (ap (λ (r : FileRec). r.owner) (it_is c.args.number (g.D.Disc.state
    c.self.inside.disc) _ c.in-Some.file.now (is_going c.args.number (g.D.Disc.state c.self.inside.disc) _ c.args.self.now c.self.view_is c.self.invariant
    c.requires.allowed) c.in-Some.ensures.value))

pub commit-requires-clause-marked : goal.commit-requires-clause-marked
commit-requires-clause-marked g c =
    marked_for (EraseFile c.args.number) (g.D.Disc.state c.self.inside.disc) _ _
    (ready g (goal.at.commit-requires-clause-marked g c).After-mark_user_changed)
    c.forget.new.self refl

pub commit-requires-clause-copies : goal.commit-requires-clause-copies
commit-requires-clause-copies g c =
    copies_for (EraseFile c.args.number) (g.D.Disc.state c.self.inside.disc) _ _
    (ready g (goal.at.commit-requires-clause-copies g c).After-mark_user_changed)
    c.forget.new.self refl

pub invariant_of-self : goal.invariant_of-self
invariant_of-self g c =
    kept_behind (EraseFile c.args.number) (g.D.Disc.state c.self.inside.disc) (g.D.Disc.state c.commit.new.disc) _ _ c.commit.new.slots c.commit.new.pages
    (ready g (goal.at.invariant_of-self g c).After-mark_user_changed)
    c.commit.new.live c.commit.result c.forget.new.self refl c.commit.ensures.ok c.commit.ensures.counts c.commit.ensures.whole
    c.commit.ensures.lives c.commit.ensures.dies

pub returns : goal.returns
returns g c =
    applied (EraseFile c.args.number) (g.D.Disc.state c.self.inside.disc) (g.D.Disc.state c.commit.new.disc) _ _ c.commit.new.slots c.commit.new.pages
    (ready g (goal.at.returns g c).After-mark_user_changed)
    c.args.self.now c.self.view_is c.commit.new.live c.commit.result c.forget.new.self refl c.commit.ensures.ok c.commit.ensures.stopped
    c.commit.ensures.counts c.commit.ensures.whole
    c.commit.ensures.only c.commit.ensures.lives c.commit.ensures.dies
