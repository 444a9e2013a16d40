use Rattle.std.proofs.Common.{◌+◌, [], ◌∷◌, arith, sym, take}
use Rattle.g_disc_contents.specs.Contents.{copied_rec}
use Rattle.g_online.specs.DumpedVersions.{noted_at, noted_in}
use Rattle.g_online.proofs.CloseMarkLemmas.{made_all, made_more, made_none_yet}
use Rattle.g_online.proofs.CloseNoteLemmas.{noted_more, noting_all, noting_more, noting_none, noting_rules}
use Rattle.g_online.proofs.closing.note_copies.Goals as goal

pub loop-pin-init : goal.loop-pin-init
loop-pin-init c = (noting_none c.args.pins.now c.args.tree.now, made_none_yet c.args.pins.now c.args.tree.now.files c.args.pages.now)

pub note_copy-requires : goal.note_copy-requires
note_copy-requires c = record {
  rules = noting_rules c.args.pins.now c.loop-pin.pin-index c.pin-item.result c.loop-pin-test.true (sym c.pin-item.is) c.args.tree.now c.loop-pin.tree c.requires.apart c.requires.numbered c.loop-pin.invariant.0
      c.requires.records c.requires.rules;
}

pub loop-pin-preserved : goal.loop-pin-preserved
loop-pin-preserved c = (
  noting_more c.args.pins.now c.loop-pin.pin-index c.pin-item.result c.loop-pin-test.true (sym c.pin-item.is) c.args.tree.now c.loop-pin.tree c.requires.apart c.requires.numbered c.loop-pin.invariant.0
      c.note_copy.new.tree c.note_copy.ensures.users c.note_copy.ensures.files,
  made_more (noted_in (take c.loop-pin.pin-index c.args.pins.now)) (noted_at (noted_in (c.pin-item.result ∷ [])) c.pin-item.result.number)
      (copied_rec (noted_in (take (c.loop-pin.pin-index + 1) c.args.pins.now))) c.args.tree.now.files c.loop-pin.tree.files c.args.pages.now c.loop-pin.pages c.note_copy.new.pages c.loop-pin.invariant.0.files
      (noted_more c.args.pins.now c.loop-pin.pin-index c.pin-item.result c.loop-pin-test.true (sym c.pin-item.is) c.args.tree.now.files c.requires.apart c.requires.numbered) c.loop-pin.invariant.1
      c.note_copy.ensures.marks,
)

pub returns-clause-files : goal.returns-clause-files
returns-clause-files c = noting_all c.args.pins.now c.loop-pin.pin-index c.args.tree.now c.loop-pin.tree (omega (arith, c.loop-pin-test.false)) c.loop-pin.invariant.0

pub returns-clause-marks : goal.returns-clause-marks
returns-clause-marks c = made_all c.args.pins.now c.loop-pin.pin-index c.args.tree.now.files c.args.pages.now c.loop-pin.pages (omega (arith, c.loop-pin-test.false)) c.loop-pin.invariant.1
