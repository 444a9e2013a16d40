-- If no fault counter rose PROCESS is done, unless memory ran out.
-- serves: process_is_complete
use Rattle.std.proofs.Common.{◌≡◌, ℕ, false, ◌≤◌, None, Err, refl, sym, arith, subst, inl, inr}
use Rattle.std.specs.Prelude.{◌⊎◌}
use Rattle.std.specs.Option.{ForSome}
use Rattle.g_base.specs.Counts.{Rose}
use Rattle.g_tape.specs.Rack.{AreReels, reel}
use Rattle.g_tape.proofs.PlaceLemmas.{reel-found}
use Rattle.g_plain.specs.declared.faults.StoreFault.{StoreFault}
use Rattle.g_plain.specs.declared.faults.StoreFault.TheVariants.{DiscReadFault, NoCopy, NoMemory, ReelNotFree, Stopped, TapeFull, TapeReadFault}
use Rattle.g_incr.specs.Plan.{needs}
use Rattle.g_store_meaning.specs.Answers.{Belongs, Told}
use Rattle.g_store_meaning.specs.StoreInvariant.{StoreFacts}
use Rattle.g_process.specs.ProcessPlan.{IsFree, IsTaken, process_plan}
use Rattle.g_process.specs.Processing.{Processes, process_refuses}
use Rattle.g_store.specs.Completeness.{NoDeviceFailed, ProcessIsComplete}
use Rattle.g_store.proofs.ProcessedStepLemmas.{free_none, none_lost, taken_some, there_is}

pub process_complete : ProcessIsComplete
process_complete = record { process = λ serial old new fault up right told was granted free fits no_disc no_tape it. by_fault fault serial old new up right told was granted free fits no_disc no_tape it }
  where
    by_fault : (fault : StoreFault) (serial : ℕ) (old new : StoreFacts) → old.spent ≡ false → AreReels old.rack.reels → Told old → Belongs old → process_refuses serial old ≡ None → IsFree serial old.rack
        → ForSome (reel serial old.rack.reels) (λ r. needs (process_plan serial old.online) ≤ r.capacity) → NoDeviceFailed old.online.disc old.rack new.online.disc new.rack
        → (Rose old.rack.write_faults new.rack.write_faults → ⊥) → Processes serial old (Err fault) new → fault ≡ NoMemory
    by_fault NoMemory serial old new up right told was granted free fits no_disc no_tape it = refl
    by_fault TapeReadFault serial old new up right told was granted free fits no_disc no_tape it = absurd (no_disc.tape_reads (it.cause.tape_read refl))
    by_fault DiscReadFault serial old new up right told was granted free fits no_disc no_tape it = absurd (no_disc.disc_reads (it.cause.disc_read refl))
    by_fault Stopped serial old new up right told was granted free fits no_disc no_tape it = absurd (by_device (it.cause.cut refl))
      where
        by_device : (Rose old.online.disc.write_faults new.online.disc.write_faults × (new.rack.write_faults ≡ old.rack.write_faults))
            ⊎ (Rose old.rack.write_faults new.rack.write_faults × (new.online.disc.write_faults ≡ old.online.disc.write_faults)) → ⊥
        by_device (inl both) = no_disc.disc_writes both.0
        by_device (inr both) = no_tape both.0
    by_fault (ReelNotFree n) serial old new up right told was granted free fits no_disc no_tape it =
        let (text, shelf, shelved, is_up) = was.up up in
        let (r, found) = there_is serial old granted in
        let (in_old, named) = reel-found serial old.rack.reels r found in
        let (n_is, taken) = it.taken n refl in
        absurd ((taken_some old.online old.rack right told shelf shelved r in_old (subst (λ (m : ℕ). IsTaken m old.rack) (sym named) taken)).0
        (free_none old.online old.rack right told shelf shelved r in_old (subst (λ (m : ℕ). IsFree m old.rack) (sym named) free)))
    by_fault (NoCopy full n) serial old new up right told was granted free fits no_disc no_tape it =
        let (text, shelf, shelved, is_up) = was.up up in
        let (free', (f, copy, name, serial_is, lost)) = it.lost full n refl in
        absurd (none_lost old.online old.rack right told shelf shelved text is_up.disc.files f copy lost)
    by_fault (TapeFull need room) serial old new up right told was granted free fits no_disc no_tape it =
        let (r, found) = there_is serial old granted in
        let (need_is, less, room_is, free') = it.full need room refl in
        let fit = fits r found in
        let room_r = room_is r found in
        absurd (let no : ⊥ = omega (arith, need_is, less, fit, room_r) in no)
    by_fault fault serial old new up right told was granted free fits no_disc no_tape it = absurd (it.granted granted)
