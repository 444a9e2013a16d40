use Rattle.std.proofs.Common.{◌∙◌, ℕ, ◌+◌, ◌≤◌, [], List, All, ap, arith, false, get_or, length, subst, sym}
use Rattle.g_entry.specs.declared.file_rec.FileRec.{FileRec}
use Rattle.g_tree.specs.Records.{IsRecords}
use Rattle.g_online.specs.declared.pinned.Pinned.{Pinned}
use Rattle.g_online.specs.DumpedVersions.{HasPut, pins_from, waiting_below}
use Rattle.g_online.proofs.PinPutLemmas.{lengths_are, owner_fits, owner_more, owner_none, owner_skipped, owners_all}
use Rattle.g_online.proofs.pins.waiting_versions.Goals.{else-waiting-from, then-waiting-from+in-Ok}
use Rattle.g_online.proofs.pins.waiting_versions.Goals as goal

pub loop-owner-init : goal.loop-owner-init
loop-owner-init c = owner_none c.args.serial c.args.online.now c.files-files.result.now c.new-pins.result.items c.args.first c.new-pins.ensures.items

pub pin_owner-requires-clause-few : goal.pin_owner-requires-clause-few
pin_owner-requires-clause-few c = subst (λ (fs : List FileRec). length fs ≤ 1024) (sym c.files-files.ensures.value) c.files-files.ensures.records.among_files.few

pub pin_owner-requires-clause-lengths : goal.pin_owner-requires-clause-lengths
pin_owner-requires-clause-lengths c =
    subst (λ (fs : List FileRec). All (λ (r : FileRec). r.len ≤ 65536) fs) (sym c.files-files.ensures.value) (lengths_are c.args.tree.now.users c.args.tree.now.files c.files-files.ensures.records)

pub pin_owner-requires-clause-room : goal.pin_owner-requires-clause-room
pin_owner-requires-clause-room c =
    owner_fits c.args.serial c.loop-owner.owner c.args.online.now c.args.tree.now.users c.files-files.result.now c.loop-owner.pins.items c.args.first c.loop-owner.at
    (subst (IsRecords c.args.tree.now.users) (sym c.files-files.ensures.value) c.files-files.ensures.records) c.loop-owner-test.true c.requires.place c.loop-owner.invariant

pub loop-owner-preserved : goal.loop-owner-preserved
loop-owner-preserved c =
    elim c.if-waiting-from.branch [
      | then-waiting-from+in-Ok w ↦
          subst (λ (ps : List Pinned). HasPut c.args.serial c.args.online.now (waiting_below (c.loop-owner.owner + 1) c.files-files.result.now) [] c.args.first ps c.if-waiting-from.at) (sym (ap (λ v. v.items) w.pins-is))
          (subst (HasPut c.args.serial c.args.online.now (waiting_below (c.loop-owner.owner + 1) c.files-files.result.now) [] c.args.first w.pin_owner.new.pins.items) (sym w.at-is)
          (owner_more c.args.serial c.loop-owner.owner c.args.online.now c.files-files.result.now c.loop-owner.pins.items w.pin_owner.new.pins.items c.args.first c.loop-owner.at w.pin_owner.new.at c.loop-owner.invariant w.in-Ok.ensures))
      | else-waiting-from w ↦
          subst (λ (ps : List Pinned). HasPut c.args.serial c.args.online.now (waiting_below (c.loop-owner.owner + 1) c.files-files.result.now) [] c.args.first ps c.if-waiting-from.at) (sym (ap (λ v. v.items) w.pins-is))
          (subst (HasPut c.args.serial c.args.online.now (waiting_below (c.loop-owner.owner + 1) c.files-files.result.now) [] c.args.first c.loop-owner.pins.items) (sym w.at-is)
          (owner_skipped c.args.serial c.loop-owner.owner c.args.online.now c.files-files.result.now c.loop-owner.pins.items c.args.first c.loop-owner.at
          (c.waiting_owners-waiting.ensures c.loop-owner.owner (omega (arith, c.loop-owner-test.true))
          (sym (ap (λ (n : ℕ). get_or c.waiting_owners-waiting.result n false) c.from.ensures) ∙ w.if-waiting-from.false)) c.loop-owner.invariant))
    ]

pub returns : goal.returns
returns c =
    owners_all c.args.serial c.loop-owner.owner c.args.online.now c.files-files.result.now c.loop-owner.pins.items c.args.first c.loop-owner.at (omega arith) c.loop-owner.invariant
    ∙ ap (λ (fs : List FileRec). pins_from c.args.serial c.args.first c.args.online.now (waiting_below 63 fs)) c.files-files.ensures.value
