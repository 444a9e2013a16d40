use Rattle.std.proofs.Common.{◌∙◌, ◌<◌, AllPairs, List, ap, subst, sym}
use Rattle.g_disc_contents.specs.Facts.{OnlineFacts}
use Rattle.g_entry.specs.declared.file_rec.FileRec.{FileRec}
use Rattle.g_online.proofs.NumberedLemmas.{numbered_pins}
use Rattle.g_online.proofs.PinLostLemmas.{gone_facts, gone_kept, lost_blocks}
use Rattle.g_online.proofs.TieLemmas.{tied}
use Rattle.g_online.proofs.online.Online.unpin.Goals as goal

pub free_orphaned_pins-requires-clause-rising : goal.free_orphaned_pins-requires-clause-rising
free_orphaned_pins-requires-clause-rising g c =
    subst (λ (files : List FileRec). AllPairs (λ (r : FileRec) (s : FileRec). r.number < s.number) files) (sym c.files.ensures.value) c.files.ensures.records.numbers.rising

pub free_orphaned_pins-requires-clause-numbered : goal.free_orphaned_pins-requires-clause-numbered
free_orphaned_pins-requires-clause-numbered g c =
    (numbered_pins (g.D.Disc.state c.self.inside.disc) _ c.self.invariant (ap (λ (o : OnlineFacts). o.live) c.self.view_is ∙ c.requires.live) c.files.result.now
    c.pinned_versions.result.now c.files.ensures.value c.pinned_versions.ensures).0

pub free_orphaned_pins-requires-clause-apart : goal.free_orphaned_pins-requires-clause-apart
free_orphaned_pins-requires-clause-apart g c =
    (lost_blocks (g.D.Disc.state c.self.inside.disc) _ c.self.invariant (ap (λ (o : OnlineFacts). o.live) c.self.view_is ∙ c.requires.live) c.files.result.now
    c.pinned_versions.result.now c.files.ensures.value c.pinned_versions.ensures).0

pub free_orphaned_pins-requires-clause-taken : goal.free_orphaned_pins-requires-clause-taken
free_orphaned_pins-requires-clause-taken g c =
    (lost_blocks (g.D.Disc.state c.self.inside.disc) _ c.self.invariant (ap (λ (o : OnlineFacts). o.live) c.self.view_is ∙ c.requires.live) c.files.result.now
    c.pinned_versions.result.now c.files.ensures.value c.pinned_versions.ensures).1

pub invariant_of-self : goal.invariant_of-self
invariant_of-self g c =
    gone_kept (g.D.Disc.state c.self.inside.disc) _ c.self.invariant (ap (λ (o : OnlineFacts). o.live) c.self.view_is ∙ c.requires.live) c.files.result.now
    c.pinned_versions.result.now c.files.ensures.value c.pinned_versions.ensures
    c.free_orphaned_pins.new.pool c.new-self-inside.result c.free_orphaned_pins.ensures c.new-self-inside.ensures

pub returns-clause-free : goal.returns-clause-free
returns-clause-free g c =
    gone_facts (g.D.Disc.state c.self.inside.disc) _ c.self.invariant (ap (λ (o : OnlineFacts). o.live) c.self.view_is ∙ c.requires.live) c.files.result.now
    c.pinned_versions.result.now c.files.ensures.value c.pinned_versions.ensures
    c.args.self.now c.self.view_is c.free_orphaned_pins.new.pool c.new-self-inside.result c.new-self-inside.ensures

pub returns-clause-tied : goal.returns-clause-tied
returns-clause-tied g c =
    tied (g.D.Disc.state c.self.inside.disc) _
    (gone_kept (g.D.Disc.state c.self.inside.disc) _ c.self.invariant (ap (λ (o : OnlineFacts). o.live) c.self.view_is ∙ c.requires.live) c.files.result.now
    c.pinned_versions.result.now c.files.ensures.value c.pinned_versions.ensures
    c.free_orphaned_pins.new.pool c.new-self-inside.result c.free_orphaned_pins.ensures c.new-self-inside.ensures)
