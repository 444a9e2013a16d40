use Rattle.std.proofs.Common.{Err, subst, sym}
use Rattle.g_online.specs.declared.change.Change.TheVariants.{PutFile}
use Rattle.g_plain.specs.declared.faults.StoreFault.{StoreFault}
use Rattle.g_store_calls.specs.AppliedChange.{HasApplied}
use Rattle.g_store_calls.proofs.RoomyLemmas.{applied_refused}
use Rattle.g_store_calls.proofs.appending.put_version.Goals as goal

pub returns-in-Err : goal.returns-in-Err
returns-in-Err g c =
    subst (λ (e : StoreFault). HasApplied (PutFile c.args.rec c.args.bytes.now c.args.unjam.now) c.args.online.now c.put_file.new.self (Err e)) (sym c.from.ensures)
    (applied_refused (PutFile c.args.rec c.args.bytes.now c.args.unjam.now) c.args.online.now c.put_file.new.self c.in-Err.fault c.requires.roomy c.in-Err.ensures)
