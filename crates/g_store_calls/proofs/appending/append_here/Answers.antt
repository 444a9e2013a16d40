use Rattle.std.proofs.Common.{Err, refl, subst, sym, true}
use Rattle.g_plain.specs.declared.faults.StoreFault.{StoreFault}
use Rattle.g_tree.specs.Records.{full_of}
use Rattle.g_store_calls.specs.Appending.{HasAppended}
use Rattle.g_store_calls.proofs.AppendCodeLemmas.{here_put, here_unplanned, here_unread, read_long}
use Rattle.g_store_calls.proofs.RoomyLemmas.{roomy}
use Rattle.g_store_calls.proofs.appending.append_here.Goals as goal

pub returns-in-Err : goal.returns-in-Err
returns-in-Err g c =
    here_unplanned c.args.online.now c.requires.live c.requires.tied c.args.file true c.requires.here c.args.bytes.now c.as_slice.result.now c.blocks_for-need.result c.blocks_for-need.ensures c.as_slice.ensures refl
    c.in-Err.fault c.in-Err.ensures.planned

pub returns-in-Err-bytes : goal.returns-in-Err-bytes
returns-in-Err-bytes g c = λ f there same rack.
    let o = c.args.online.now in
    subst (λ (e : StoreFault). HasAppended (full_of o.contents.users f.rec) f c.args.bytes.now o c.bytes.new.self rack rack (Err e)) (sym c.from.ensures)
    (here_unread o c.requires.live c.requires.tied c.args.file true c.requires.here c.args.bytes.now c.as_slice.result.now c.blocks_for-need.result c.blocks_for-need.ensures c.as_slice.ensures refl
    c.bytes.new.self c.in-Ok.plan c.in-Err-bytes.fault c.in-Ok.ensures.planned c.in-Err-bytes.ensures.only c.in-Err-bytes.ensures.reads c.bytes.ensures.same c.bytes.ensures.tied c.in-Err-bytes.ensures.filled f there same rack)

pub put_behind-requires-clause-long : goal.put_behind-requires-clause-long
put_behind-requires-clause-long g c = read_long c.args.online.now c.args.file c.in-Ok-bytes.old c.requires.here c.in-Ok-bytes.ensures.text

pub put_behind-requires-clause-roomy : goal.put_behind-requires-clause-roomy
put_behind-requires-clause-roomy g c =
    roomy c.args.online.now c.bytes.new.self c.in-Ok.plan.take c.blocks_for-need.result c.in-Ok.plan.room c.args.file.len c.args.bytes.now c.as_slice.result.now c.blocks_for-need.ensures c.as_slice.ensures
    c.in-Ok.ensures.without c.in-Ok.ensures.planned.1 c.bytes.ensures.same c.in-Ok-bytes.ensures.reads.size

pub returns : goal.returns
returns g c =
    here_put c.args.online.now c.requires.live c.requires.tied c.args.file true c.requires.here c.args.bytes.now c.as_slice.result.now c.blocks_for-need.result c.blocks_for-need.ensures c.as_slice.ensures refl
    c.bytes.new.self c.put_behind.new.online c.in-Ok.plan c.in-Ok-bytes.old c.in-Ok.ensures.planned c.in-Ok-bytes.ensures.reads c.in-Ok-bytes.ensures.same c.in-Ok-bytes.ensures.tied c.in-Ok-bytes.ensures.text
    c.put_behind.result c.put_behind.ensures
