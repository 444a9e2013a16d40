use Rattle.std.proofs.Common.{Err, arith, subst, sym}
use Rattle.g_online.specs.declared.change.Change.TheVariants.{EraseFile}
use Rattle.g_plain.specs.declared.faults.StoreFault.{StoreFault}
use Rattle.g_store_calls.specs.AppliedChange.{HasApplied}
use Rattle.g_store_calls.proofs.RoomyLemmas.{applied_refused}
use Rattle.g_store_calls.proofs.changing.drop_record.Goals as goal

pub returns-in-Err : goal.returns-in-Err
returns-in-Err g c =
    subst (λ (e : StoreFault). HasApplied (EraseFile c.args.number) c.args.online.now c.erase_file.new.self (Err e)) (sym c.from.ensures)
    (applied_refused (EraseFile c.args.number) c.args.online.now c.erase_file.new.self c.in-Err.fault (omega arith) c.in-Err.ensures)
