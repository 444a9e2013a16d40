use Rattle.std.proofs.Common.{Err, subst, sym}
use Rattle.g_plain.specs.declared.faults.StoreFault.{StoreFault}
use Rattle.g_store_calls.specs.AppliedChange.{HasApplied}
use Rattle.g_store_calls.proofs.RoomyLemmas.{applied_refused}
use Rattle.g_store_calls.proofs.changing.applied.Goals as goal

pub returns-in-Err : goal.returns-in-Err
returns-in-Err g c =
    subst (λ (e : StoreFault). HasApplied c.args.change.now c.args.online.now c.apply.new.self (Err e)) (sym c.from.ensures)
    (applied_refused c.args.change.now c.args.online.now c.apply.new.self c.in-Err.fault c.requires.roomy c.in-Err.ensures)
