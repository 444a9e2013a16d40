use Rattle.std.proofs.Common.{Err, arith, subst, sym}
use Rattle.g_plain.specs.declared.faults.StoreFault.{StoreFault}
use Rattle.g_store_calls.specs.Versions.{HasMade}
use Rattle.g_store_calls.proofs.MakeLemmas.{put_allowed}
use Rattle.g_store_calls.proofs.RoomyLemmas.{made_refused}
use Rattle.g_store_calls.proofs.putting.make_version.Goals as goal

pub put_file-requires : goal.put_file-requires
put_file-requires g c = record {
  allowed = put_allowed c.args.online.now c.args.bytes.now c.args.rec c.blocks_for-need.result c.in-Ok.plan.take c.in-Ok.plan.room c.requires.live c.requires.tied c.requires.next c.in-Ok.ensures.plan;
}

pub returns : goal.returns
returns g c =
    let o = c.args.online.now in
    subst (λ (e : StoreFault). HasMade c.args.rec c.args.bytes.now o c.put_file.new.self (Err e)) (sym c.from.ensures)
    (made_refused o c.put_file.new.self c.args.bytes.now c.args.rec c.blocks_for-need.result c.in-Ok.plan.take c.in-Ok.plan.room c.blocks_for-need.ensures c.requires.next c.in-Ok.ensures.plan (omega (arith, c.if-plan-need.false))
    c.in-Err-put_file.fault c.in-Ok.ensures.room c.in-Err-put_file.ensures)
