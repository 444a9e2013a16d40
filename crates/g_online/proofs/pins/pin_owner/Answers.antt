use Rattle.g_online.proofs.PinPutLemmas.{putting_all, putting_fits, putting_more, putting_none}
use Rattle.g_online.proofs.pins.pin_owner.Goals as goal

pub loop-file-init : goal.loop-file-init
loop-file-init c =
    putting_none c.args.serial c.args.owner c.args.online.now c.args.files.now c.into_iter-file-iterator.result c.args.pins.now.items c.args.at.now c.into_iter-file-iterator.ensures.into_iter_gives

pub pin_file-requires : goal.pin_file-requires
pin_file-requires c = record {
  room = putting_fits c.args.serial c.args.owner c.args.online.now c.args.files.now c.loop-file.file-iterator c.next.new.self c.in-Some.file.now c.in-Some.ensures.steps c.args.pins.now.items c.loop-file.pins.items c.args.at.now c.loop-file.at
      c.loop-file.invariant c.requires.few c.requires.lengths c.requires.room;
}

pub loop-file-preserved : goal.loop-file-preserved
loop-file-preserved c =
    putting_more c.args.serial c.args.owner c.args.online.now c.args.files.now c.loop-file.file-iterator c.next.new.self c.in-Some.file.now c.in-Some.ensures.steps c.args.pins.now.items c.loop-file.pins.items c.args.at.now c.loop-file.at
    c.loop-file.invariant c.pin_file.new.pins.items c.pin_file.new.at c.in-Ok.ensures

pub returns : goal.returns
returns c =
    putting_all c.args.serial c.args.owner c.args.online.now c.args.files.now c.loop-file.file-iterator c.args.pins.now.items c.loop-file.pins.items c.args.at.now c.loop-file.at c.in-None.ensures.steps.0 c.loop-file.invariant
