use Rattle.std.proofs.Common.{false}
use Rattle.std.proofs.lemmas.List.{length-replicate}
use Rattle.g_online.proofs.PinPutLemmas.{waiting_all, waiting_next, waiting_none}
use Rattle.g_online.proofs.pins.waiting_owners.Goals as goal

pub loop-file-init : goal.loop-file-init
loop-file-init c = waiting_none c.args.files.now c.into_iter-file-iterator.result _ c.into_iter-file-iterator.ensures.into_iter_gives (length-replicate 256 false)

pub loop-file-preserved : goal.loop-file-preserved
loop-file-preserved c =
    waiting_next c.args.files.now c.loop-file.file-iterator c.next.new.self c.in-Some.file.now c.in-Some.ensures.steps c.loop-file.waiting c.loop-file.invariant _ c.note_waiting.ensures

pub returns : goal.returns
returns c = waiting_all c.args.files.now c.loop-file.file-iterator c.loop-file.waiting c.in-None.ensures.steps.0 c.loop-file.invariant
