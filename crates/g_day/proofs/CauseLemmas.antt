-- WHAT DEVICES COUNT in an event, by its answer.
-- serves: UpLemmas, crates above
use Rattle.std.proofs.Common.{◌≡◌, ◌≤◌, [], refl}
use Rattle.std.specs.Prelude.{Result, Err}
use Rattle.g_base.specs.Counts.{Rose}
use Rattle.g_base.proofs.CountLemmas.{Rose-later}
use Rattle.g_disc.specs.Disc.{Causes, DiscState}
use Rattle.g_tape.specs.Reads.{OnlyReads}
use Rattle.g_plain.specs.declared.faults.StoreFault.{StoreFault}
use Rattle.g_plain.specs.declared.faults.StoreFault.TheVariants.{DiscReadFault, Stopped, TapeReadFault}
use Rattle.g_store_model.specs.CallStep.{Cut, DiscRead, Outcome, Plain, TapeRead}
use Rattle.g_run_model.specs.Devices.{Devices}
use Rattle.g_run_model.specs.Moves.{EventCounted}
use Rattle.g_run_model.proofs.CountLemmas.{a_failure, disc_failed, no_failure, none_failed}
use Rattle.g_day.specs.System.{SameDevices}
use Rattle.g_day.proofs.LabelLemmas.{labels_read, stands_still}
use Rattle.g_run_model.proofs.EventToldLemmas.{OutcomeTold}

-- an event that writes no tape: each count moves with its own answer
pub record OfDisc {A : Type 0} (answer : Result A StoreFault) (old new : Devices) : Type 0 where
  pub disc : Causes (answer ≡ Err DiscReadFault) (answer ≡ Err Stopped) old.disc new.disc
  pub tape_arms : new.rack.arms ≡ old.rack.arms
  pub tape_writes : new.rack.write_faults ≡ old.rack.write_faults
  pub tape_read : answer ≡ Err TapeReadFault → Rose old.rack.read_faults new.rack.read_faults
  pub tape_read_only : (answer ≡ Err TapeReadFault → ⊥) → new.rack.read_faults ≡ old.rack.read_faults

module _ {A : Type 0} (answer : Result A StoreFault) (old new : Devices) (is : OfDisc answer old new) where
  pub counted_by : (o : Outcome) → OutcomeTold o answer → EventCounted o [] [] old new
  counted_by Plain told =
      let disc = is.disc.reads_kept (λ e. let no : ◌≡◌ {A = Outcome} Plain DiscRead = told.disc_read e in cc) in
      let tape = is.tape_read_only (λ e. let no : ◌≡◌ {A = Outcome} Plain TapeRead = told.tape_read e in cc) in
      let cut = is.disc.writes_kept (λ e. let no : ◌≡◌ {A = Outcome} Plain Cut = told.cut e in cc) in record {
        disc_read = no_failure old.disc.read_faults new.disc.read_faults disc;
        tape_read = no_failure old.rack.read_faults new.rack.read_faults tape;
        cuts = none_failed old new cut is.tape_writes;
        disc_armed = is.disc.arms;
        tape_armed = is.tape_arms;
      }
  counted_by DiscRead told =
      let tape = is.tape_read_only (λ e. let no : ◌≡◌ {A = Outcome} DiscRead TapeRead = told.tape_read e in cc) in
      let cut = is.disc.writes_kept (λ e. let no : ◌≡◌ {A = Outcome} DiscRead Cut = told.cut e in cc) in record {
        disc_read = a_failure old.disc.read_faults new.disc.read_faults (is.disc.reads_rose told.told);
        tape_read = no_failure old.rack.read_faults new.rack.read_faults tape;
        cuts = none_failed old new cut is.tape_writes;
        disc_armed = is.disc.arms;
        tape_armed = is.tape_arms;
      }
  counted_by TapeRead told =
      let disc = is.disc.reads_kept (λ e. let no : ◌≡◌ {A = Outcome} TapeRead DiscRead = told.disc_read e in cc) in
      let cut = is.disc.writes_kept (λ e. let no : ◌≡◌ {A = Outcome} TapeRead Cut = told.cut e in cc) in record {
        disc_read = no_failure old.disc.read_faults new.disc.read_faults disc;
        tape_read = a_failure old.rack.read_faults new.rack.read_faults (is.tape_read told.told);
        cuts = none_failed old new cut is.tape_writes;
        disc_armed = is.disc.arms;
        tape_armed = is.tape_arms;
      }
  counted_by Cut told =
      let disc = is.disc.reads_kept (λ e. let no : ◌≡◌ {A = Outcome} Cut DiscRead = told.disc_read e in cc) in
      let tape = is.tape_read_only (λ e. let no : ◌≡◌ {A = Outcome} Cut TapeRead = told.tape_read e in cc) in record {
        disc_read = no_failure old.disc.read_faults new.disc.read_faults disc;
        tape_read = no_failure old.rack.read_faults new.rack.read_faults tape;
        cuts = disc_failed old new (is.disc.writes_rose told.told) is.tape_writes;
        disc_armed = is.disc.arms;
        tape_armed = is.tape_arms;
      }

-- no counter of the disc falls, for any answer
pub reads_later : {A : Type 0} (answer : Result A StoreFault) (old new : DiscState) → Causes (answer ≡ Err DiscReadFault) (answer ≡ Err Stopped) old new → old.read_faults ≤ new.read_faults
reads_later (Err DiscReadFault) old new is = Rose-later (is.reads_rose refl)
reads_later answer old new is = stands_still old.read_faults new.read_faults (is.reads_kept (λ e. let no : ⊥ = cc in no))

pub writes_later : {A : Type 0} (answer : Result A StoreFault) (old new : DiscState) → Causes (answer ≡ Err DiscReadFault) (answer ≡ Err Stopped) old new → old.write_faults ≤ new.write_faults
writes_later (Err Stopped) old new is = Rose-later (is.writes_rose refl)
writes_later answer old new is = stands_still old.write_faults new.write_faults (is.writes_kept (λ e. let no : ⊥ = cc in no))

-- nor of the tapes, if they were only read
pub same_caused : {A : Type 0} (answer : Result A StoreFault) (old new : Devices) → Causes (answer ≡ Err DiscReadFault) (answer ≡ Err Stopped) old.disc new.disc → OnlyReads old.rack new.rack → SameDevices old new
same_caused answer old new is reads = record {
  size = is.size;
  read_faults = reads_later answer old.disc new.disc is;
  write_faults = writes_later answer old.disc new.disc is;
  writes = is.later;
  tape_read_faults = reads.read_faults;
  tape_write_faults = stands_still old.rack.write_faults new.rack.write_faults reads.write_faults;
  reels = labels_read old.rack.reels new.rack.reels reads.reels;
}
