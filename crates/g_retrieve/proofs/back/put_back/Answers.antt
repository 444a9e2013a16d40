use Rattle.std.proofs.Common.{Err, subst, sym}
use Rattle.g_plain.specs.declared.faults.StoreFault.{StoreFault}
use Rattle.g_retrieve.specs.Retrieval.{IsPutBack}
use Rattle.g_retrieve.proofs.AllowLemmas.{plan_room, rules_here}
use Rattle.g_retrieve.proofs.BackLemmas.{not_put, was_put}
use Rattle.g_retrieve.proofs.back.put_back.Goals as goal

pub returns-in-Ok : goal.returns-in-Ok
returns-in-Ok g c =
    let o = c.args.online.now in
    let room = plan_room o _ c.args.unjam.now.room c.args.unjam.now.take (rules_here o c.requires.allowed.live c.requires.tied).records c.requires.plan c.room-room.ensures.fits in
    was_put c.args.number c.args.text c.args.unjam.now o c.bring.new.self room _ c.in-Ok.ensures

pub returns-in-Err : goal.returns-in-Err
returns-in-Err g c =
    let o = c.args.online.now in
    let room = plan_room o _ c.args.unjam.now.room c.args.unjam.now.take (rules_here o c.requires.allowed.live c.requires.tied).records c.requires.plan c.room-room.ensures.fits in
    subst (λ (e : StoreFault). IsPutBack c.args.number c.args.text c.args.unjam.now o c.bring.new.self (Err e)) (sym c.into.ensures)
    (not_put c.args.number c.args.text c.args.unjam.now o c.bring.new.self room c.in-Err.fault c.in-Err.ensures)
