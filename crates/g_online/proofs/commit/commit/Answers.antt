use Rattle.std.proofs.Common.{◌≡◌, ◌∙◌, subst, sym}
use Rattle.g_dirs.specs.Directory.{Directory, directory_of}
use Rattle.g_online.specs.Commit.{CommitStopped, HasCommitted, IsMarked}
use Rattle.g_online.proofs.WriteLemmas.{all_syncable, has_committed}
use Rattle.g_online.proofs.commit.commit.Goals as goal
use Rattle.g_online.proofs.commit.commit.Goals.{After-write_changed}

listed : (g : _) (c : After-write_changed g) → c.new-listing.result ≡ directory_of c.args.head.now c.args.tree.now.users c.args.tree.now.files c.args.online.now
listed g c = c.new-listing.ensures ∙ (λ i. directory_of c.args.head.now (c.users.ensures.value i) (c.files.ensures.value i) c.args.online.now)

pub returns-in-Ok-clause-ok : goal.returns-in-Ok-clause-ok
returns-in-Ok-clause-ok g c =
    let before = g.D.Disc.state c.args.disc.now in
    let after = g.D.Disc.state c.write_changed.new.disc in
    let is = listed g (goal.at.returns-in-Ok-clause-ok g c).After-write_changed in
    subst (λ (d : Directory). HasCommitted d before after c.args.slots.now c.write_changed.new.slots c.args.pages.now c.write_changed.new.last) is
    (has_committed c.new-listing.result before after c.args.slots.now c.write_changed.new.slots c.args.pages.now c.write_changed.new.last
    (subst (λ (d : Directory). IsMarked before c.args.slots.now c.args.pages.now d) (sym is) c.requires.marked)
    c.in-Ok.ensures.counts.size c.in-Ok.ensures.ok c.in-Ok.ensures.side c.in-Ok.ensures.gate c.in-Ok.ensures.remembers c.in-Ok.ensures.all c.in-Ok.ensures.others c.in-Ok.ensures.other_marks
    c.in-Ok.ensures.remembered
    (λ ready saved. (c.in-Ok.ensures.survives ready (all_syncable c.new-listing.result before c.size-size.ensures.syncable saved)).durable))

pub returns-in-Err-clause-stopped : goal.returns-in-Err-clause-stopped
returns-in-Err-clause-stopped g c =
    let before = g.D.Disc.state c.args.disc.now in
    let after = g.D.Disc.state c.write_changed.new.disc in
    let is = listed g (goal.at.returns-in-Err-clause-stopped g c).After-write_changed in
    subst (λ (d : Directory). CommitStopped d before after c.args.pages.now) is
    (record {
      content = c.in-Err.ensures.stopped;
      safe = λ ready saved gate is_safe.
          let both = c.in-Err.ensures.survives ready (all_syncable c.new-listing.result before c.size-size.ensures.syncable saved) in
          (both.safe gate is_safe, both.survives gate is_safe);
    })
