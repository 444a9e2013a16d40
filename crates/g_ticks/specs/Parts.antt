-- Parts of a run: from each world that matches what is at hand between two ticks there are moves to a world that matches
-- what is at hand then.
use Rattle.std.specs.Prelude.{◌≡◌, ◌⊎◌, ℕ, ◌+◌, ◌<◌, ◌≤◌, ◌||◌, All, Bool, true, false, nat_le, List, [], ◌∷◌, ◌++◌, length, Option, Some, None}
use Rattle.std.specs.Fn.{Shared}
use denote.Ref.{Bor}
use Rattle.g_rules.specs.declared.tariff.Charge.{Charge}
use Rattle.g_rules.specs.declared.tariff.Usage.{Usage}
use Rattle.g_rules.specs.declared.rule.Standing.{Standing}
use Rattle.g_io.specs.Streams.{HasPutPart, with_more}
use Rattle.g_tape.specs.Rack.{Rack}
use Rattle.g_laws_store.specs.Moving.{DumpsMove}
use Rattle.g_script.specs.declared.operator.Timed.{Timed}
use Rattle.g_run_model.specs.Lines.{is_process}
use Rattle.g_run_model.specs.Moves.{Move, MovesCounted, Run}
use Rattle.g_run_model.specs.Top.{AreArmings}
use Rattle.g_run_model.specs.World.{World, is_due, nothing_steps}
use Rattle.g_run_model.specs.Devices.{Devices}
use Rattle.g_laws_runs.specs.BeginningAnew.{AreBlank, BeginAnew, NoDiscFault, is_aside, is_first, with_new_disc}
use Rattle.g_job_table.specs.Numbers.{AreOpen}
use Rattle.g_day.specs.declared.progress.Failure.{Failure}
use Rattle.g_day.specs.BeginningAnew.{IsBlank, beside, beside_new}
use Rattle.g_day.specs.Losses.{LeftAfter, Never}
use Rattle.g_day.specs.Parts.{IsReady, IsWithin, Matches, Seen}
use Rattle.g_day.specs.Puts.{FaultCause, HasGrown}
use Rattle.g_day.specs.System.{Down, DumpsGrow, SameDevices, StandsAs, SystemBelongs, SystemFacts, SystemSafe, devices_in}
use Rattle.g_ticks.specs.Tick.{IsBetween, has_dump, left, some_job_steps}

-- The turn from which on the first of some lines is due.
abbrev pub turn_of : List Timed → Option ℕ
turn_of [] = None
turn_of (next ∷ lines) = Some next.turn

-- The count has reached this turn.
abbrev pub is_past : Option ℕ → ℕ → Bool
is_past None count = false
is_past (Some turn) count = nat_le turn count

-- Something steps, whether or not the devices expose their contents: the open dump, or a job.
abbrev pub steps_in : Seen → Bool
steps_in seen = has_dump seen.system || some_job_steps seen

-- The limits of an operator's line and of the time when it is due.
abbrev pub IsTimedWithin : Timed → Type 0
IsTimedWithin next = IsWithin next.what × (next.turn ≤ 1000000000)

-- All lines are due by this count.
abbrev pub AreDueBy : ℕ → List Timed → Type 0
AreDueBy most lines = All (λ next. next.turn ≤ most) lines

-- The count has room for ticks: the turn of the next line is at most 1,000,000,000; after all lines, the count plus what is
-- left to do is less than 2^64 - 1.
abbrev pub HasRoom : Option ℕ → Seen → Type 0
HasRoom None s = s.count + left s < 18446744073709551615
HasRoom (Some turn) s = turn ≤ 1000000000

-- A line is due, or nothing steps.
abbrev pub IsAtRest : World → Type 0
IsAtRest w = (is_due w ≡ true) ⊎ (nothing_steps w ≡ true)

-- No condition.
abbrev pub Anything : World → Type 0
Anything w = Unit {0}

module _ {F U : Type 0} (tariffs : Shared F (Bor Usage × Unit {0}) Charge) (tariff : F) (rules : Shared U (Bor Standing × Unit {0}) ℕ) (rule : U) where
  -- Moves from one world to the next, whose store the system represents; what the devices counted, and the numbers with
  -- which lines armed each of them. The text is longer. A safe system stays safe, and a power loss leaves a state that it may leave after
  -- these moves.
  pub record LeadsFrom (Safe : SystemFacts → Type 0) (w : World) (old new : SystemFacts) (moves : List Move) (next : World) (added : List ℕ) : Type 0 where
    pub disc_arms : List ℕ
    pub tape_arms : List ℕ
    pub run : Run tariffs tariff rules rule w moves next
    pub counted : MovesCounted moves disc_arms tape_arms (devices_in old) (devices_in new)
    pub stands : StandsAs new next.store
    pub safe : Safe old → Safe new
    pub left : Safe old → LeftAfter tariffs tariff rules rule w moves next old new
    pub bad : next.bad ≡ w.bad
    pub over : next.over ≡ w.over
    pub disc_stops : next.disc_stops ≡ w.disc_stops ++ disc_arms
    pub tape_stops : next.tape_stops ≡ w.tape_stops ++ tape_arms
    pub text : next.text ≡ w.text ++ added

  -- everything was done, its text was written, and these lines remain
  pub record ArrivesFrom (Safe : SystemFacts → Type 0) (Rests : World → Type 0) (w : World) (rest : List Timed) (old new : Seen) (before after : Option (List ℕ)) : Type 0 where
    pub moves : List Move
    pub next : World
    pub added : List ℕ
    pub leads : LeadsFrom Safe w old.system new.system moves next added
    pub matches : Matches next new
    pub between : IsBetween next
    pub lines : next.lines ≡ rest
    pub rests : Rests next
    pub put : after ≡ with_more before added

  -- some of it was done, and a prefix of its text was written
  pub record BreaksFrom (Safe : SystemFacts → Type 0) (w : World) (old new : SystemFacts) (before after : Option (List ℕ)) : Type 0 where
    pub moves : List Move
    pub next : World
    pub added : List ℕ
    pub leads : LeadsFrom Safe w old new moves next added
    pub put : HasPutPart before added after

  -- as far as a failure permits
  abbrev pub GoesFrom : (SystemFacts → Type 0) → (World → Type 0) → World → List Timed → Seen → Option Failure → Seen → Option (List ℕ) → Option (List ℕ) → Type 0
  GoesFrom Safe Rests w rest old None new before after = ArrivesFrom Safe Rests w rest old new before after
  GoesFrom Safe Rests w rest old (Some failure) new before after = BreaksFrom Safe w old.system new.system before after

  -- from each world that matches what is at hand, and has these lines left
  abbrev pub PartGoesFrom : (SystemFacts → Type 0) → (World → Type 0) → List Timed → List Timed → Seen → Option Failure → Seen → Option (List ℕ) → Option (List ℕ) → Type 0
  PartGoesFrom Safe Rests lines rest old failure new before after =
      (w : World) → Matches w old → IsBetween w → w.lines ≡ lines → GoesFrom Safe Rests w rest old failure new before after

  -- the same from a system of which all is claimed
  abbrev pub Leads : World → SystemFacts → SystemFacts → List Move → World → List ℕ → Type 0
  Leads w old new moves next added = LeadsFrom SystemSafe w old new moves next added

  abbrev pub PartGoes : (World → Type 0) → List Timed → List Timed → Seen → Option Failure → Seen → Option (List ℕ) → Option (List ℕ) → Type 0
  PartGoes Rests lines rest old failure new before after = PartGoesFrom SystemSafe Rests lines rest old failure new before after

-- None of these lines is a PROCESS.
abbrev pub HaveNoProcess : List Timed → Type 0
HaveNoProcess lines = All (λ next. is_process next.what ≡ false) lines

-- What happens to completed dumps in a part that did some lines: each stays, or its whole reel was released and a newer
-- dump holds everything; and if none of the lines is a PROCESS, all stay.
pub record DumpsKept (done : List Timed) (old new : Rack) : Type 0 where
  pub move : DumpsMove old new
  pub stay : HaveNoProcess done → DumpsGrow old new

-- What holds of all devices after a part that did some lines. Everything is ready for the next part, unless this one
-- failed. The lines armed the devices. Disc and rack still belong together, a safe system stays safe, and completed dumps stay or
-- move. The sink's counter rises only with a failure of its own.
pub record Keeps (done : List Timed) (old : Seen) (failure : Option Failure) (new : Seen) (faults faults' : ℕ) : Type 0 where
  pub ready : failure ≡ None → IsReady new.system new.crew × AreOpen new.crew.jobs
  pub numbers : failure ≡ None → new.crew.next_job ≤ old.crew.next_job + length done
  pub arms : AreArmings done (failure ≡ None) (devices_in old.system) (devices_in new.system)
  pub same : SameDevices (devices_in old.system) (devices_in new.system)
  pub belongs : SystemBelongs old.system → SystemBelongs new.system
  pub safe : SystemSafe old.system → SystemSafe new.system
  pub dumps : SystemBelongs old.system → DumpsKept done (devices_in old.system).rack (devices_in new.system).rack
  pub cause : FaultCause failure faults faults'

-- None of these lines uses the filestore.
abbrev pub AreAside : List Timed → Type 0
AreAside lines = All (λ next. is_aside next.what ≡ true) lines

-- The lines may come before the system comes up: lines that don't use the filestore, and FORMAT.
abbrev pub AreFirst : List Timed → Type 0
AreFirst lines = All (λ next. is_first next.what ≡ true) lines

-- A line remains, and it is of another kind.
abbrev pub IsOther : List Timed → Type 0
IsOther [] = ⊥
IsOther (next ∷ lines) = is_first next.what ≡ false

-- No FORMAT among these lines succeeded, on devices for starting over: `Goes` holds of what is at hand with a new disc. If
-- all lines were done, one of them a FORMAT, the disc counted a failure.
pub record NoneTook (Goes : Seen → Type 0) (done : List Timed) (old : Seen) (failure : Option Failure) (new : Seen) : Type 0 where
  pub goes : Goes (beside new)
  pub blank : IsBlank new.system
  pub unwell : failure ≡ None → BeginAnew done → NoDiscFault (devices_in old.system) (devices_in new.system) → ⊥

-- No FORMAT succeeded, or `Goes` holds of what is at hand.
abbrev pub BeginsBy : (Seen → Type 0) → List Timed → Seen → Option Failure → Seen → Type 0
BeginsBy Goes done old failure new = NoneTook Goes done old failure new ⊎ Goes new

module _ {F U : Type 0} (tariffs : Shared F (Bor Usage × Unit {0}) Charge) (tariff : F) (rules : Shared U (Bor Standing × Unit {0}) ℕ) (rule : U) where
  -- these lines, from what is at hand with a new disc
  abbrev pub LinesGo : List Timed → Seen → Option Failure → Seen → Option (List ℕ) → Option (List ℕ) → Type 0
  LinesGo done old failure new before after = (rest : List Timed) → PartGoesFrom tariffs tariff rules rule Never Anything (done ++ rest) rest (beside old) failure new before after

  -- No FORMAT succeeded, and a line of another kind was reached. Up to that line the text is that of a run with a new disc;
  -- the disc had counted a failure by then. Nothing is specified about what such a line does with the contents of the disc.
  pub record Misses (w : World) (old new : Seen) (before after : Option (List ℕ)) : Type 0 where
    pub moves : List Move
    pub next : World
    pub added : List ℕ
    pub mid : Devices
    pub leads : LeadsFrom tariffs tariff rules rule Never w (beside_new old.system) (Down (with_new_disc mid)) moves next added
    pub blank : AreBlank mid
    pub unwell : NoDiscFault (devices_in old.system) mid → ⊥
    pub same : SameDevices mid (devices_in new.system)
    pub other : IsOther next.lines
    pub text : HasGrown (with_more before added) after

  -- `Misses`, from each world that matches what is at hand with a new disc.
  abbrev pub PartMisses : List Timed → Seen → Seen → Option (List ℕ) → Option (List ℕ) → Type 0
  PartMisses lines old new before after = (w : World) → Matches w (beside old) → IsBetween w → w.lines ≡ lines → Misses w old new before after

module _ {F U : Type 0} (tariffs : Shared F (Bor Usage × Unit {0}) Charge) (tariff : F) (rules : Shared U (Bor Standing × Unit {0}) ℕ) (rule : U) where
  -- ticks, as long as something steps, up to the turn of the next line, which the count doesn't exceed
  pub record DidTicks (Rests : World → Type 0) (limit : Option ℕ) (old : Seen) (failure : Option Failure) (new : Seen) (before after : Option (List ℕ)) (faults faults' : ℕ) : Type 0 where
    pub goes : (lines : List Timed) → turn_of lines ≡ limit → PartGoes tariffs tariff rules rule Rests lines lines old failure new before after
    pub keeps : Keeps [] old failure new faults faults'
    pub late : failure ≡ None → (turn : ℕ) → limit ≡ Some turn → (new.count ≤ turn) ⊎ (new.count ≡ old.count)
    pub grows : HasGrown before after
    -- with a new disc none was done
    pub aside : IsBlank old.system
        → IsBlank new.system × ((lines : List Timed) → turn_of lines ≡ limit → PartGoesFrom tariffs tariff rules rule Never Rests lines lines (beside old) failure (beside new) before after)

  -- these lines, each when it is due or nothing steps; the count doesn't exceed the turns of all
  pub record DidLines (done : List Timed) (old : Seen) (failure : Option Failure) (new : Seen) (before after : Option (List ℕ)) (faults faults' : ℕ) : Type 0 where
    pub goes : (rest : List Timed) → PartGoes tariffs tariff rules rule Anything (done ++ rest) rest old failure new before after
    pub keeps : Keeps done old failure new faults faults'
    pub late : failure ≡ None → (most : ℕ) → AreDueBy most done → old.count ≤ most → new.count ≤ most
    pub grows : HasGrown before after
    -- for starting over: FORMATs, and lines that don't use the filestore
    pub first : AreFirst done → IsBlank old.system → BeginsBy (λ s. LinesGo tariffs tariff rules rule done old failure s before after) done old failure new
    -- and a FORMAT after such lines, followed by any lines
    pub anew : BeginAnew done → IsBlank old.system
        → BeginsBy (λ s. LinesGo tariffs tariff rules rule done old failure s before after) done old failure new ⊎ ((rest : List Timed) → PartMisses tariffs tariff rules rule (done ++ rest) old new before after)

  -- all lines, after which nothing steps
  pub record DidAll (lines : List Timed) (old : Seen) (failure : Option Failure) (new : Seen) (before after : Option (List ℕ)) (faults faults' : ℕ) : Type 0 where
    pub goes : PartGoes tariffs tariff rules rule IsAtRest lines [] old failure new before after
    pub keeps : Keeps lines old failure new faults faults'
    pub anew : BeginAnew lines → IsBlank old.system
        → BeginsBy (λ s. PartGoesFrom tariffs tariff rules rule Never IsAtRest lines [] (beside old) failure s before after) lines old failure new
        ⊎ PartMisses tariffs tariff rules rule lines old new before after
