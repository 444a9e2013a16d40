-- PROCESS on a store that is up: the one line that writes tapes, so that a write that fails in it is the disc's or the rack's.
-- serves: AskLemmas
use Rattle.std.proofs.Common.{◌≡◌, ◌⊎◌, ◌≤◌, ◌-◌, ◌^◌, ◌==◌, ℕ, Bool, true, false, not, List, [], ◌∷◌, Option, Some, None, MatchOption, is_some, nat_lt, refl, ◌∙◌, ap, subst, inl, inr}
use Rattle.std.specs.Prelude.{Result, Ok, Err}
use Rattle.std.specs.List.{AllZip}
use Rattle.g_base.specs.Counts.{Rose}
use Rattle.g_base.proofs.CountLemmas.{Rose-later}
use Rattle.g_tape.specs.Reel.{Reel}
use Rattle.g_plain.specs.declared.faults.StoreFault.{StoreFault}
use Rattle.g_plain.specs.declared.faults.StoreFault.TheVariants.{CountersSpent, DiscReadFault, DumpOpen, NoTape, RackNotMounted, ReelNotFree, Stopped, TapeFull, TapeReadFault}
use Rattle.g_plain.specs.PlainStep.{first_fault}
use Rattle.g_process.specs.Processing.{ProcessCause, Processes}
use Rattle.g_laws_power.proofs.DeviceLemmas.{stops_leave_safe}
use Rattle.g_laws_power.proofs.EventLemmas.{process_keeps_safe}
use Rattle.g_laws_power.proofs.ProcessStateLemmas.{stopped_process_survives}
use Rattle.g_store_model.specs.CallStep.{Cut, DiscRead, Outcome, Plain, TapeRead, down}
use Rattle.g_store_model.specs.DumpSteps.{open_number, with_used}
use Rattle.g_store_model.specs.Process.{Marked, Moved, NotYet, ProcessLeft, ProcessStep, Processes as Steps, marked_by, moved, process_needs, process_refuses, process_refuses_late, with_cut, with_intent}
use Rattle.g_store_model.specs.Rising.{fault_from}
use Rattle.g_store_model.specs.State.{Holding, State, capacity_in, end_of, first_reel, lacks, reel_at, with_reel}
use Rattle.g_store_meaning.specs.StoreInvariant.{StoreFacts}
use Rattle.g_script.specs.declared.operator.Operator.TheVariants as line
use Rattle.g_run_model.specs.Devices.{Devices}
use Rattle.g_run_model.specs.Moves.{DumpCounted, Failures, Happened, WritesFailed}
use Rattle.g_run_model.specs.Texts.{operator_line, processed_text}
use Rattle.g_run_model.proofs.CountLemmas.{a_failure, dump_failed, no_failure, none_failed, rack_failed}
use Rattle.g_run_model.proofs.EventToldLemmas.{process_told, OutcomeTold}
use Rattle.g_job_table.specs.Crew.{CrewState}
use Rattle.g_day.specs.declared.progress.Failure.{Failure}
use Rattle.g_operator.specs.Asking.{Processed}
use Rattle.g_day.specs.Parts.{DidLine, IsReady, seen}
use Rattle.g_day.specs.Puts.{Puts}
use Rattle.g_day.specs.System.{Up, devices_in, labels}
use Rattle.g_day.specs.Telling.{TellsFault, system_after}
use Rattle.g_day.proofs.LabelLemmas.{stands_still}
use Rattle.g_day.proofs.UpLemmas.{Caused, Went, fault_line, granted_line, went_down}

-- the reels are the same ones
labels_same : (old new : List Reel) → AllZip (λ (o : Reel) (n : Reel). (n.serial ≡ o.serial) × (n.capacity ≡ o.capacity) × (n.mounted ≡ o.mounted)) old new → labels new ≡ labels old
labels_same [] [] are = refl
labels_same [] (n ∷ new) are = absurd are
labels_same (o ∷ old) [] are = absurd are
labels_same (o ∷ old) (n ∷ new) are =
    let (serial, capacity, mounted) = are.0 in
    ap (λ (x : ℕ). (x, n.capacity) ∷ labels new) serial ∙ ap (λ (x : ℕ). (o.serial, x) ∷ labels new) capacity ∙ ap (λ (ls : List (ℕ × ℕ)). (o.serial, o.capacity) ∷ ls) (labels_same old new are.1)

-- WHAT THE DEVICES COUNT, by its answer
module _ (old new : StoreFacts) (answer : Result ℕ StoreFault) (is : ProcessCause old new answer) where
  abbrev was : Devices
  was = devices_in (Up old)

  abbrev now : Devices
  now = devices_in (Up new)

  reads_counted : (k m n : ℕ) → Failures k was.disc.read_faults now.disc.read_faults → Failures m was.rack.read_faults now.rack.read_faults → WritesFailed 0 n was now → Happened k m 0 n [] [] was now
  reads_counted k m n disc tape cuts = record { disc_read = disc; tape_read = tape; cuts = cuts; disc_armed = is.disc_arms; tape_armed = is.tape_arms }

  pub process_counted : (o : Outcome) → OutcomeTold o answer → DumpCounted o was now
  process_counted Plain told =
      let disc = is.disc_read_only (λ e. let no : ◌≡◌ {A = Outcome} Plain DiscRead = told.disc_read e in cc) in
      let tape = is.tape_read_only (λ e. let no : ◌≡◌ {A = Outcome} Plain TapeRead = told.tape_read e in cc) in
      let (disc_cut, tape_cut) = is.uncut (λ e. let no : ◌≡◌ {A = Outcome} Plain Cut = told.cut e in cc) in
      reads_counted 0 0 0 (no_failure was.disc.read_faults now.disc.read_faults disc) (no_failure was.rack.read_faults now.rack.read_faults tape) (none_failed was now disc_cut tape_cut)
  process_counted DiscRead told =
      let tape = is.tape_read_only (λ e. let no : ◌≡◌ {A = Outcome} DiscRead TapeRead = told.tape_read e in cc) in
      let (disc_cut, tape_cut) = is.uncut (λ e. let no : ◌≡◌ {A = Outcome} DiscRead Cut = told.cut e in cc) in
      reads_counted 1 0 0 (a_failure was.disc.read_faults now.disc.read_faults (is.disc_read told.told)) (no_failure was.rack.read_faults now.rack.read_faults tape) (none_failed was now disc_cut tape_cut)
  process_counted TapeRead told =
      let disc = is.disc_read_only (λ e. let no : ◌≡◌ {A = Outcome} TapeRead DiscRead = told.disc_read e in cc) in
      let (disc_cut, tape_cut) = is.uncut (λ e. let no : ◌≡◌ {A = Outcome} TapeRead Cut = told.cut e in cc) in
      reads_counted 0 1 0 (no_failure was.disc.read_faults now.disc.read_faults disc) (a_failure was.rack.read_faults now.rack.read_faults (is.tape_read told.told)) (none_failed was now disc_cut tape_cut)
  process_counted Cut told =
      let disc = is.disc_read_only (λ e. let no : ◌≡◌ {A = Outcome} Cut DiscRead = told.disc_read e in cc) in
      let tape = is.tape_read_only (λ e. let no : ◌≡◌ {A = Outcome} Cut TapeRead = told.tape_read e in cc) in
      reads_counted 0 0 1 (no_failure was.disc.read_faults now.disc.read_faults disc) (no_failure was.rack.read_faults now.rack.read_faults tape) (by (is.cut told.told))
    where
      by : (Rose was.disc.write_faults now.disc.write_faults × (now.rack.write_faults ≡ was.rack.write_faults))
          ⊎ (Rose was.rack.write_faults now.rack.write_faults × (now.disc.write_faults ≡ was.disc.write_faults)) → WritesFailed 0 1 was now
      by (inl (rose, still)) = dump_failed was now rose still
      by (inr (rose, still)) = rack_failed was now still rose

-- A STOP TAKES THE STATE DOWN: no refusal is a stop
not_early : (a : Bool) (u : Option ℕ) (d b : Bool) (n : ℕ) → first_fault ((a, NoTape) ∷ fault_from RackNotMounted u ∷ (d, DumpOpen n) ∷ (b, CountersSpent) ∷ []) ≡ Some Stopped → ⊥
not_early true u d b n is = cc
not_early false (Some m) d b n is = cc
not_early false None true b n is = cc
not_early false None false true n is = cc
not_early false None false false n is = cc

not_late : (a b : Bool) (n need room : ℕ) → first_fault ((a, ReelNotFree n) ∷ (b, TapeFull need room) ∷ []) ≡ Some Stopped → ⊥
not_late true b n need room is = cc
not_late false true n need room is = cc
not_late false false n need room is = cc

abbrev stopped : Result ℕ StoreFault
stopped = Err Stopped

module _ (s : State) (k : Holding) (serial : ℕ) (u : State) where
  left_down : ProcessLeft s k serial u → down u ≡ u
  left_down (NotYet used (inl is)) = went_down s u is
  left_down (NotYet used (inr is)) = went_down (record s { reels = with_reel serial (with_used used) s.reels; holding = Some (with_intent s serial k) }) u is
  left_down (Marked d p is) = went_down (record (marked_by s k serial d) { holding = Some (with_intent s serial k) }) u is
  left_down (Moved places d p are copies until cut released is) = went_down (with_cut cut (moved s k serial places d until)) u is

  steps_down : (o : Outcome) → Steps s k serial o stopped u → down u ≡ u
  steps_down Plain (same, done) = absurd (let no : ⊥ = cc in no)
  steps_down DiscRead (same, left) = absurd (let no : ⊥ = cc in no)
  steps_down TapeRead (same, left) = absurd (let no : ⊥ = cc in no)
  steps_down Cut (same, left) = left_down left

  late_down : (o : Outcome) (f : Option StoreFault) → (f ≡ Some Stopped → ⊥)
      → MatchOption f (Steps s k serial o stopped u) (λ fault. ((stopped ≡ Err fault) ⊎ ((o ≡ TapeRead) × (stopped ≡ Err TapeReadFault))) × (u ≡ s)) → down u ≡ u
  late_down o None isnt step = steps_down o step
  late_down o (Some fault) isnt (inl same, is) = absurd (isnt (let e : fault ≡ Stopped = cc in ap Some e))
  late_down o (Some fault) isnt (inr (read, same), is) = absurd (let no : ⊥ = cc in no)

  early_down : (o : Outcome) (f : Option StoreFault) → (f ≡ Some Stopped → ⊥)
      → MatchOption f (MatchOption (process_refuses_late s k serial) (Steps s k serial o stopped u) (λ fault. ((stopped ≡ Err fault) ⊎ ((o ≡ TapeRead) × (stopped ≡ Err TapeReadFault))) × (u ≡ s)))
      (λ fault. (stopped ≡ Err fault) × (u ≡ s)) → down u ≡ u
  early_down o None isnt step =
      late_down o (process_refuses_late s k serial)
      (not_late (nat_lt 0 (end_of s serial)) (nat_lt (capacity_in (reel_at serial s.reels)) (process_needs k)) serial (process_needs k) (capacity_in (reel_at serial s.reels))) step
  early_down o (Some fault) isnt (same, is) = absurd (isnt (let e : fault ≡ Stopped = cc in ap Some e))

  pub process_down : (o : Outcome) → ProcessStep s k serial o stopped u → down u ≡ u
  process_down o step =
      early_down o (process_refuses s k serial)
      (not_early (lacks s serial) (first_reel (λ r. not r.mounted) s.reels) (is_some s.open_dump) (k.last == 2 ^ 62 - 1) (open_number s.open_dump)) step

-- no counter of the disc or of the tapes falls in it
process_reads : (answer : Result ℕ StoreFault) (old new : StoreFacts) → ProcessCause old new answer → old.online.disc.read_faults ≤ new.online.disc.read_faults
process_reads (Err DiscReadFault) old new is = Rose-later (is.disc_read refl)
process_reads answer old new is = stands_still old.online.disc.read_faults new.online.disc.read_faults (is.disc_read_only (λ e. let no : ⊥ = cc in no))

process_writes : (answer : Result ℕ StoreFault) (old new : StoreFacts) → ProcessCause old new answer → old.online.disc.write_faults ≤ new.online.disc.write_faults
process_writes (Err Stopped) old new is = by (is.cut refl)
  where
    by : (Rose old.online.disc.write_faults new.online.disc.write_faults × (new.rack.write_faults ≡ old.rack.write_faults))
        ⊎ (Rose old.rack.write_faults new.rack.write_faults × (new.online.disc.write_faults ≡ old.online.disc.write_faults)) → old.online.disc.write_faults ≤ new.online.disc.write_faults
    by (inl disc) = Rose-later disc.0
    by (inr rack) = stands_still old.online.disc.write_faults new.online.disc.write_faults rack.1
process_writes answer old new is = stands_still old.online.disc.write_faults new.online.disc.write_faults (is.uncut (λ e. let no : ⊥ = cc in no)).0

process_tape_reads : (answer : Result ℕ StoreFault) (old new : StoreFacts) → ProcessCause old new answer → old.rack.read_faults ≤ new.rack.read_faults
process_tape_reads (Err TapeReadFault) old new is = Rose-later (is.tape_read refl)
process_tape_reads answer old new is = stands_still old.rack.read_faults new.rack.read_faults (is.tape_read_only (λ e. let no : ⊥ = cc in no))

process_tape_writes : (answer : Result ℕ StoreFault) (old new : StoreFacts) → ProcessCause old new answer → old.rack.write_faults ≤ new.rack.write_faults
process_tape_writes (Err Stopped) old new is = by (is.cut refl)
  where
    by : (Rose old.online.disc.write_faults new.online.disc.write_faults × (new.rack.write_faults ≡ old.rack.write_faults))
        ⊎ (Rose old.rack.write_faults new.rack.write_faults × (new.online.disc.write_faults ≡ old.online.disc.write_faults)) → old.rack.write_faults ≤ new.rack.write_faults
    by (inl disc) = stands_still old.rack.write_faults new.rack.write_faults disc.1
    by (inr rack) = Rose-later rack.0
process_tape_writes answer old new is = stands_still old.rack.write_faults new.rack.write_faults (is.uncut (λ e. let no : ⊥ = cc in no)).1

-- ITS LINE
module _ (serial : ℕ) (old new : StoreFacts) (c : CrewState) (ready : IsReady (Up old) c) (count : ℕ) where
  went_process : (answer : Result ℕ StoreFault) → Processed serial old answer new → Went (λ s k o a n. ProcessStep s k serial o a n) old answer new
  went_process answer is = record {
    step = is.step;
    keeps = is.answers.keeps;
    told = is.answers.told;
    belongs = is.answers.belongs;
    safe = λ safe other. process_keeps_safe.safe serial old new answer safe is.answers other;
    stopped = λ safe e. stops_leave_safe.process serial old new safe (subst (λ (a : Result ℕ StoreFault). Processes serial old a new) e is.answers);
    survives = λ safe e blocks rack left.
        (stopped_process_survives serial old new blocks rack is.reels safe (subst (λ (a : Result ℕ StoreFault). Processes serial old a new) e is.answers) left).1;
    spent = is.answers.spent;
  }

  caused_process : (answer : Result ℕ StoreFault) → Processed serial old answer new → Caused (line.Process serial) old answer new
  caused_process answer is = record {
    counted = λ o told. process_counted old new answer is.answers.cause o told;
    still = λ told. process_counted old new answer is.answers.cause Plain told;
    disc_armed = is.answers.cause.disc_arms;
    rack_armed = is.answers.cause.tape_arms;
    same = record {
      size = is.answers.cause.size;
      read_faults = process_reads answer old new is.answers.cause;
      write_faults = process_writes answer old new is.answers.cause;
      writes = is.answers.cause.later;
      tape_read_faults = process_tape_reads answer old new is.answers.cause;
      tape_write_faults = process_tape_writes answer old new is.answers.cause;
      reels = labels_same old.rack.reels new.rack.reels is.answers.cause.reels;
    };
    dumps = λ was. is.dumps was.0 was.1;
  }

  pub processed_line : (number : ℕ) → Processed serial old (Ok number) new → (failure : Option Failure) (before_text after : Option (List ℕ)) (faults faults' : ℕ)
      → Puts failure (operator_line count (processed_text serial number)) before_text after faults faults' → DidLine (line.Process serial) (seen (Up old) c count) failure (seen (Up new) c count) before_text after faults faults'
  processed_line number is failure before_text after faults faults' puts =
      granted_line (line.Process serial) (λ s k o a n. ProcessStep s k serial o a n) (processed_text serial) (λ o w next it. it) refl refl (λ s k o r u step. process_told s k serial o r u step) old new ready.0 c count
      number (went_process (Ok number) is) (caused_process (Ok number) is) failure before_text after faults faults' puts

  pub unprocessed_line : (fault : StoreFault) → Processed serial old (Err fault) new → (failure : Option Failure) (c' : CrewState) (before_text after : Option (List ℕ)) (faults faults' : ℕ)
      → TellsFault fault count c failure c' before_text after faults faults' → DidLine (line.Process serial) (seen (Up old) c count) failure (seen (system_after fault new) c' count) before_text after faults faults'
  unprocessed_line fault is failure c' before_text after faults faults' tells =
      fault_line (line.Process serial) (λ s k o a n. ProcessStep s k serial o a n) (processed_text serial) (λ o w next it. it) refl refl (λ s k o r u step. process_told s k serial o r u step) old new ready.0 c count
      fault (went_process (Err fault) is) (caused_process (Err fault) is) (λ s k o u step. process_down s k serial u o step) failure c' before_text after faults faults' tells
