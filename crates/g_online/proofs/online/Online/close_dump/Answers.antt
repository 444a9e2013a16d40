use Rattle.std.proofs.Common.{◌∙◌, ◌<◌, AllPairs, List, ap, sym, refl, subst}
use Rattle.g_disc_contents.specs.Facts.{OnlineFacts}
use Rattle.g_entry.specs.declared.file_rec.FileRec.{FileRec}
use Rattle.g_online.proofs.CloseLemmas.{close_ready, close_rules, closing_is, lost_to_close, may_close, to_close}
use Rattle.g_online.proofs.NotedLemmas.{noted_by, noted_kept}
use Rattle.g_online.proofs.NumberedLemmas.{numbered_pins}
use Rattle.g_online.proofs.StepLemmas.{copies_for, marked_for}
use Rattle.g_online.specs.declared.change.Change.TheVariants.{Adopt}
use Rattle.g_online.specs.DumpedVersions.{noted_in}
use Rattle.g_online.proofs.online.Online.close_dump.Goals as goal

pub free_orphaned_pins-requires-clause-rising : goal.free_orphaned_pins-requires-clause-rising
free_orphaned_pins-requires-clause-rising g c =
    subst (λ (files : List FileRec). AllPairs (λ (r : FileRec) (s : FileRec). r.number < s.number) files) (sym c.files.ensures.value) c.files.ensures.records.numbers.rising

pub free_orphaned_pins-requires-clause-numbered : goal.free_orphaned_pins-requires-clause-numbered
free_orphaned_pins-requires-clause-numbered g c =
    (numbered_pins (g.D.Disc.state c.self.inside.disc) _ c.self.invariant (ap (λ (o : OnlineFacts). o.live) c.self.view_is ∙ c.requires.live) c.files.result.now
    c.pinned_versions-pins.result.now c.files.ensures.value c.pinned_versions-pins.ensures).0

pub free_orphaned_pins-requires-clause-apart : goal.free_orphaned_pins-requires-clause-apart
free_orphaned_pins-requires-clause-apart g c =
    (lost_to_close c.args.last (g.D.Disc.state c.self.inside.disc) _ (to_close c.args.last (g.D.Disc.state c.self.inside.disc) _ c.args.self.now
    c.self.view_is c.self.invariant c.requires.live c.requires.pinned c.requires.rules)
    c.files.result.now c.pinned_versions-pins.result.now c.files.ensures.value c.pinned_versions-pins.ensures).0

pub free_orphaned_pins-requires-clause-taken : goal.free_orphaned_pins-requires-clause-taken
free_orphaned_pins-requires-clause-taken g c =
    (lost_to_close c.args.last (g.D.Disc.state c.self.inside.disc) _ (to_close c.args.last (g.D.Disc.state c.self.inside.disc) _ c.args.self.now
    c.self.view_is c.self.invariant c.requires.live c.requires.pinned c.requires.rules)
    c.files.result.now c.pinned_versions-pins.result.now c.files.ensures.value c.pinned_versions-pins.ensures).1

pub note_copies-requires-clause-rules : goal.note_copies-requires-clause-rules
note_copies-requires-clause-rules g c =
    close_rules c.args.last (g.D.Disc.state c.self.inside.disc) _ (to_close c.args.last (g.D.Disc.state c.self.inside.disc) _ c.args.self.now c.self.view_is
    c.self.invariant c.requires.live c.requires.pinned c.requires.rules)
    c.files.result.now c.pinned_versions-pins.result.now c.files.ensures.value c.pinned_versions-pins.ensures c.free_orphaned_pins.new.pool c.free_orphaned_pins.ensures

pub note_copies-requires-clause-records : goal.note_copies-requires-clause-records
note_copies-requires-clause-records g c = c.files.ensures.records

pub note_copies-requires-clause-apart : goal.note_copies-requires-clause-apart
note_copies-requires-clause-apart g c =
    (numbered_pins (g.D.Disc.state c.self.inside.disc) _ c.self.invariant (ap (λ (o : OnlineFacts). o.live) c.self.view_is ∙ c.requires.live) c.self.inside.tree.files c.pinned_versions-pins.result.now refl c.pinned_versions-pins.ensures).1

pub note_copies-requires-clause-numbered : goal.note_copies-requires-clause-numbered
note_copies-requires-clause-numbered g c =
    (numbered_pins (g.D.Disc.state c.self.inside.disc) _ c.self.invariant (ap (λ (o : OnlineFacts). o.live) c.self.view_is ∙ c.requires.live) c.self.inside.tree.files c.pinned_versions-pins.result.now refl c.pinned_versions-pins.ensures).0

pub commit-requires-clause-marked : goal.commit-requires-clause-marked
commit-requires-clause-marked g c =
    marked_for (Adopt c.args.last (noted_in c.pinned_versions-pins.result.now)) (g.D.Disc.state c.self.inside.disc) _ _
    (close_ready c.args.last (g.D.Disc.state c.self.inside.disc) _ (to_close c.args.last (g.D.Disc.state c.self.inside.disc) _ c.args.self.now c.self.view_is
    c.self.invariant c.requires.live c.requires.pinned c.requires.rules)
    c.files.result.now c.pinned_versions-pins.result.now c.files.ensures.value c.pinned_versions-pins.ensures c.free_orphaned_pins.new.pool c.free_orphaned_pins.ensures
    c.note_copies.new.tree.users c.note_copies.new.tree.files c.changed.new.self c.note_copies.new.pages c.note_copies.ensures.users
    c.note_copies.ensures.files c.changed.ensures.marks c.changed.ensures.remembers c.changed.ensures.covers c.note_copies.ensures.marks)
    c.self.inside.online refl

pub commit-requires-clause-copies : goal.commit-requires-clause-copies
commit-requires-clause-copies g c =
    copies_for (Adopt c.args.last (noted_in c.pinned_versions-pins.result.now)) (g.D.Disc.state c.self.inside.disc) _ _
    (close_ready c.args.last (g.D.Disc.state c.self.inside.disc) _ (to_close c.args.last (g.D.Disc.state c.self.inside.disc) _ c.args.self.now c.self.view_is
    c.self.invariant c.requires.live c.requires.pinned c.requires.rules)
    c.files.result.now c.pinned_versions-pins.result.now c.files.ensures.value c.pinned_versions-pins.ensures c.free_orphaned_pins.new.pool c.free_orphaned_pins.ensures
    c.note_copies.new.tree.users c.note_copies.new.tree.files c.changed.new.self c.note_copies.new.pages c.note_copies.ensures.users
    c.note_copies.ensures.files c.changed.ensures.marks c.changed.ensures.remembers c.changed.ensures.covers c.note_copies.ensures.marks)
    c.self.inside.online refl

pub invariant_of-self : goal.invariant_of-self
invariant_of-self g c =
    let may =
    may_close c.args.last (g.D.Disc.state c.self.inside.disc) _
    (to_close c.args.last (g.D.Disc.state c.self.inside.disc) _ c.args.self.now c.self.view_is c.self.invariant c.requires.live c.requires.pinned
    c.requires.rules)
    c.files.result.now c.pinned_versions-pins.result.now c.files.ensures.value c.pinned_versions-pins.ensures c.free_orphaned_pins.new.pool c.free_orphaned_pins.ensures
    c.note_copies.new.tree.users c.note_copies.new.tree.files c.changed.new.self c.note_copies.new.pages c.replace-self-inside.result
    c.replace-self-inside.new.dest
    c.note_copies.ensures.users c.note_copies.ensures.files c.changed.ensures.marks c.changed.ensures.remembers c.changed.ensures.covers
    c.note_copies.ensures.marks
    c.replace-self-inside.ensures.value (c.replace-self-inside.ensures.after ∙ c.new.ensures) in
    noted_kept _ _ _ _ _ _ _ may (g.D.Disc.state c.commit.new.disc) c.commit.new.slots c.commit.new.pages c.commit.new.live c.commit.result c.self.inside.online
    refl
    c.commit.ensures.ok c.commit.ensures.counts c.commit.ensures.whole c.commit.ensures.lives c.commit.ensures.dies

pub returns : goal.returns
returns g c =
    let may =
    may_close c.args.last (g.D.Disc.state c.self.inside.disc) _
    (to_close c.args.last (g.D.Disc.state c.self.inside.disc) _ c.args.self.now c.self.view_is c.self.invariant c.requires.live c.requires.pinned
    c.requires.rules)
    c.files.result.now c.pinned_versions-pins.result.now c.files.ensures.value c.pinned_versions-pins.ensures c.free_orphaned_pins.new.pool c.free_orphaned_pins.ensures
    c.note_copies.new.tree.users c.note_copies.new.tree.files c.changed.new.self c.note_copies.new.pages c.replace-self-inside.result
    c.replace-self-inside.new.dest
    c.note_copies.ensures.users c.note_copies.ensures.files c.changed.ensures.marks c.changed.ensures.remembers c.changed.ensures.covers
    c.note_copies.ensures.marks
    c.replace-self-inside.ensures.value (c.replace-self-inside.ensures.after ∙ c.new.ensures) in
    closing_is c.args.last (g.D.Disc.state c.self.inside.disc) _
    (to_close c.args.last (g.D.Disc.state c.self.inside.disc) _ c.args.self.now c.self.view_is c.self.invariant c.requires.live c.requires.pinned
    c.requires.rules)
    c.files.result.now c.pinned_versions-pins.result.now c.files.ensures.value c.pinned_versions-pins.ensures c.free_orphaned_pins.new.pool c.free_orphaned_pins.ensures
    c.replace-self-inside.result c.args.self.now _ c.commit.result c.replace-self-inside.ensures.value c.self.view_is
    (noted_by _ _ _ _ _ _ _ may (g.D.Disc.state c.commit.new.disc) c.commit.new.slots c.commit.new.pages c.commit.new.live c.commit.result c.self.inside.online
    refl
    c.commit.ensures.ok c.commit.ensures.stopped c.commit.ensures.counts c.commit.ensures.whole c.commit.ensures.only c.commit.ensures.lives
    c.commit.ensures.dies)
