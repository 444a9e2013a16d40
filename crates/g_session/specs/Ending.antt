-- THE LINES OF A SESSION, and its end: what the functions between two requests and the end promise. Internal: public contracts cite `Session` only.
use Rattle.std.specs.Prelude.{◌≡◌, ℕ, Bool, List, [], Option, Some, None, option_map}
use Rattle.std.specs.Fn.{Shared}
use denote.Ref.{Bor}
use Rattle.g_rules.specs.declared.tariff.Charge.{Charge}
use Rattle.g_rules.specs.declared.tariff.Usage.{Usage}
use Rattle.g_console.specs.Transcript.{Transcript, blank, written_of}
use Rattle.g_rules.specs.declared.rule.Standing.{Standing}
use Rattle.g_script.specs.declared.operator.Timed.{Timed}
use Rattle.g_store_meaning.specs.Safety.{AreSafe}
use Rattle.g_store_model.specs.State.{State}
use Rattle.g_laws_store.specs.Moving.{DumpsMove}
use Rattle.g_run_model.specs.Devices.{Devices, StandFor}
use Rattle.g_laws_runs.specs.BeginningAnew.{AreBlank, with_new_disc}
use Rattle.g_laws_runs.specs.Filestores.{HasFilestore}
use Rattle.g_day.specs.declared.progress.Failure.{Failure}
use Rattle.g_day.specs.declared.progress.Failure.TheVariants as failures
use Rattle.g_day.specs.Parts.{Seen, seen}
use Rattle.g_day.specs.Puts.{FaultCause, Puts}
use Rattle.g_day.specs.System.{BelongTogether, Down, SameDevices}
use Rattle.g_ticks.specs.Parts.{IsAtRest, Keeps, PartGoesFrom}
use Rattle.g_typing.specs.declared.item.ItemReader.{ItemReader}
use Rattle.g_typing.specs.declared.item.Place.{Place}
use Rattle.g_typing.specs.declared.item.Place.TheVariants as place
use Rattle.g_laws_sessions.specs.Session.{AlwaysAnswers, or_else, refusal_line}
use Rattle.g_run.specs.declared.status.Status.{Status}
use Rattle.g_run.specs.declared.status.Status.TheVariants.{Done, BadScript, ScriptFault, OutputFault, NoMemory}
use Rattle.g_session.specs.Exchanging.{HasEnded, failure_of}
use Rattle.g_session.specs.Parts.{Broken, Claimed, Last, Stands}
use Rattle.g_session.specs.Session.{EndsAnew, EndsSession, IsOfSession, SessionCause, SessionSurvives}
use Rattle.g_session.specs.declared.exchange.Course.{Course}
use Rattle.g_session.specs.declared.exchange.Course.TheVariants as course

-- before the first line: the system is down
abbrev pub first_seen : Devices → Seen
first_seen old = seen (Down old) (record { jobs = []; accounts = []; next_job = 1 }) 0

-- the status of a session
abbrev pub session_status : Option Failure → Course → Option ℕ → Status
session_status (Some failures.Output) c bad = OutputFault
session_status (Some failures.Memory) c bad = NoMemory
session_status None course.Fails bad = ScriptFault
session_status None other (Some line) = BadScript line
session_status None other None = Done

-- what holds of all devices after some lines
pub record KeepsMany (old : Seen) (c : Course) (new : Seen) : Type 0 where
  pub done : List Timed
  pub from : ℕ
  pub to : ℕ
  pub keeps : Keeps done old (failure_of c) new from to

-- the course at the end: that of the lines, unless something failed after them
abbrev pub course_at_end : Course → Option Failure → Course
course_at_end c None = c
course_at_end c (Some failure) = course.Breaks failure

-- what the end of a session does to its course, and to the console's count of faults, which rises only if it failed to print
abbrev pub EndCause : Course → Course → ℕ → ℕ → Type 0
EndCause (course.Breaks failure) new faults faults' = (new ≡ course.Breaks failure) × (faults' ≡ faults)
EndCause old new faults faults' = FaultCause (failure_of new) faults faults' × (failure_of new ≡ None → new ≡ old)

-- the JOB line of a document that is open is refused
pub record RefusesOpen (c : Course) (k : ℕ) (bad : Option ℕ) (course' : Course) (bad' : Option ℕ) (before after : Option (List ℕ)) (faults faults' : ℕ) : Type 0 where
  pub failure : Option Failure
  pub course_is : course' ≡ course_at_end c failure
  pub bad_is : bad' ≡ or_else bad (Some k)
  pub puts : Puts failure (refusal_line k) before after faults faults'

-- nothing is refused
pub record RefusesNone (c : Course) (bad : Option ℕ) (course' : Course) (bad' : Option ℕ) (before after : Option (List ℕ)) (faults faults' : ℕ) : Type 0 where
  pub course_is : course' ≡ c
  pub bad_is : bad' ≡ bad
  pub quiet : after ≡ before
  pub still : faults' ≡ faults

abbrev pub DidOpen : Course → Place → Option ℕ → Course → Option ℕ → Option (List ℕ) → Option (List ℕ) → ℕ → ℕ → Type 0
DidOpen (course.Breaks failure) p bad course' bad' before after faults faults' = RefusesNone (course.Breaks failure) bad course' bad' before after faults faults'
DidOpen c (place.Document k) bad course' bad' before after faults faults' = RefusesOpen c k bad course' bad' before after faults faults'
DidOpen c other bad course' bad' before after faults faults' = RefusesNone c bad course' bad' before after faults faults'

module _ {F U : Type 0} (tariffs : Shared F (Bor Usage × Unit {0}) Charge) (tariff : F) (rules : Shared U (Bor Standing × Unit {0}) ℕ) (rule : U) where
  -- ALL LINES THAT CAME are answered
  abbrev pub AfterLines : State → Bool → Devices → Option Transcript → Option (List ℕ) → Course → Option ℕ → Seen → ItemReader → ℕ → Option Transcript → Option (List ℕ) → Type 0
  AfterLines s real old from log0 (course.Breaks failure) bad seen reader number transcript log = Broken tariffs tariff rules rule s real old seen.system from transcript log0 log
  AfterLines s real old from log0 other bad seen reader number transcript log =
      HasEnded other transcript × ((done : List Timed) × Stands tariffs tariff rules rule s real old done bad seen reader number [] from transcript log0 log)

  -- an open document was refused, and the system ran until nothing could step
  pub record AtEnd (s : State) (real : Bool) (old : Devices) (from : Option Transcript) (log0 : Option (List ℕ)) (bad : Option ℕ) (new : Seen) (transcript : Option Transcript) (log : Option (List ℕ)) : Type 0 where
    pub done : List Timed
    pub was : Seen
    pub middle : Option Transcript
    pub last : Last tariffs tariff rules rule s real old done bad was from middle log0 log
    pub goes : PartGoesFrom tariffs tariff rules rule (Claimed real) IsAtRest [] [] was None new (option_map written_of middle) (option_map written_of transcript)

  abbrev pub RestsAtEnd : State → Bool → Devices → Option Transcript → Option (List ℕ) → Course → Option ℕ → Seen → Option Transcript → Option (List ℕ) → Type 0
  RestsAtEnd s real old from log0 (course.Breaks failure) bad seen transcript log = Broken tariffs tariff rules rule s real old seen.system from transcript log0 log
  RestsAtEnd s real old from log0 other bad seen transcript log = HasEnded other transcript × AtEnd s real old from log0 bad seen transcript log

  -- A SESSION on some devices: the clauses of `session` but for the fuses
  pub record DidSession (status : Status) (old new : Devices) (from transcript : Option Transcript) (log0 log : Option (List ℕ)) (faults faults' log_faults log_faults' : ℕ) : Type 0 where
    pub of : IsOfSession status
    pub answers : from ≡ Some blank → (t : Transcript) → transcript ≡ Some t → (s : State) → StandFor old s → AlwaysAnswers tariffs tariff rules rule s t
    pub ends : from ≡ Some blank → (t : Transcript) → transcript ≡ Some t → (s : State) → StandFor old s → EndsSession tariffs tariff rules rule status s old new t log0 log
    pub causes : SessionCause status faults faults' log_faults log_faults'
    pub same : SameDevices old new
    pub belongs : BelongTogether old → BelongTogether new
    pub safe : AreSafe old.disc old.rack → AreSafe new.disc new.rack
    pub survives : AreSafe old.disc old.rack → from ≡ Some blank → (t : Transcript) → transcript ≡ Some t → (s : State) → StandFor old s → SessionSurvives tariffs tariff rules rule s old new t log0 log
    pub dumps : BelongTogether old → DumpsMove old.rack new.rack
    pub stands : BelongTogether old → HasFilestore old → HasFilestore new
    pub anew : from ≡ Some blank → (t : Transcript) → transcript ≡ Some t → AreBlank old → (s : State) → StandFor (with_new_disc old) s → EndsAnew tariffs tariff rules rule status s old new t log0 log
