-- A turn as it is taken on a store: what happens to store and crew, and what is printed.
use Rattle.std.specs.Prelude.{◌≡◌, ◌⊎◌, ◌↔◌, ℕ, Bool, true, false, List, [], ◌++◌, Option, Some, None, codes}
use Rattle.std.specs.Fmt.{decimal}
use Rattle.std.specs.Fn.{Shared}
use denote.Ref.{Bor}
use Rattle.g_rules.specs.declared.tariff.Usage.{Usage}
use Rattle.g_rules.specs.declared.tariff.Charge.{Charge}
use Rattle.g_day.specs.declared.progress.Failure.{Failure}
use Rattle.g_day.specs.declared.progress.Failure.TheVariants.{Memory}
use Rattle.g_day.specs.Opening.{Opens}
use Rattle.g_day.specs.Puts.{Puts}
use Rattle.g_day.specs.System.{Down, SystemFacts, Up}
use Rattle.g_day.specs.Telling.{down_text, without_jobs}
use Rattle.g_job_table.specs.Accounts.{AreKept}
use Rattle.g_job_table.specs.Crew.{CrewState}
use Rattle.g_job_table.specs.Numbers.{job_in}
use Rattle.g_job_table.specs.Seating.{pushed_of}
use Rattle.g_job_table.specs.Turn.{TakesTurn}
use Rattle.g_job.specs.State.{JobState}
use Rattle.g_job.specs.Turns.{turn_work}
use Rattle.g_rules.specs.declared.turn.Turn.{Turn}
use Rattle.g_rules.specs.declared.turn.Turn.TheVariants as turns
use Rattle.g_plain.specs.Programs.{RanInPart}
use Rattle.g_store_meaning.specs.Answers.{Answers}
use Rattle.g_store_meaning.specs.StoreInvariant.{StoreFacts}
use Rattle.g_tape.specs.Rack.{is_mounted, reel}
use Rattle.g_run_model.specs.Accounts.{Opened, settled}
use Rattle.g_run_model.specs.Texts.{ended_file, job_text, operator_line, shown}
use Rattle.g_run_model.specs.World.{with_job, without_job}

-- The store stays up, accounts open for users who have none, and a text is written.
pub record GoesOn (s : StoreFacts) (added : List ℕ) (c : CrewState) (failure : Option Failure) (system : SystemFacts) (c' : CrewState) (before after : Option (List ℕ)) (old new : ℕ) : Type 0 where
  pub up : system ≡ Up s
  pub opens : failure ≡ None → Opens s.online.contents.users c c'
  pub put : Puts failure added before after old new

-- The system goes down, and the files of the jobs are written, after what was shown at a terminal.
pub record GoesDown (s : StoreFacts) (shown : List ℕ) (count : ℕ) (c : CrewState) (failure : Option Failure) (system : SystemFacts) (c' : CrewState) (before after : Option (List ℕ)) (old new : ℕ) : Type 0 where
  pub down : system ≡ Down (record { disc = s.online.disc; rack = s.rack })
  pub crew : c' ≡ without_jobs c
  pub put : Puts failure (shown ++ down_text count (codes "SYSTEM STOPPED") c) before after old new

-- The job is removed, and what it has used is charged to its account.
pub record TakenOut (job : JobState) (number : ℕ) (c c' : CrewState) : Type 0 where
  pub there : job_in number c.jobs ≡ Some job
  pub jobs : c'.jobs ≡ without_job number c.jobs
  pub accounts : (accounts : List Opened) → AreKept accounts c.accounts → AreKept (settled job accounts) c'.accounts
  pub next_job : c'.next_job ≡ c.next_job

-- How a turn ends: the crew has the job as it is afterwards. First the text that the turn has added to a terminal's file is
-- written.
abbrev pub EndsTurn : ℕ → ℕ → StoreFacts → CrewState → List ℕ → Turn → Option Failure → SystemFacts → CrewState → Option (List ℕ) → Option (List ℕ) → ℕ → ℕ → Type 0
EndsTurn count number s c shown turns.Broken failure system c' before after old new = GoesDown s shown count c failure system c' before after old new
EndsTurn count number s c shown (turns.Wants serial) failure system c' before after old new =
    GoesOn s (shown ++ operator_line count (job_text number (codes "WANTS TAPE " ++ decimal serial))) c failure system c' before after old new
EndsTurn count number s c shown (turns.Ran units money) failure system c' before after old new = GoesOn s shown c failure system c' before after old new
EndsTurn count number s c shown (turns.Ended units money) failure system c' before after old new =
    (job : JobState) × (mid : CrewState) × TakenOut job number c mid × GoesOn s (shown ++ ended_file job) mid failure system c' before after old new

-- What is written of a job's file after its turn, given how many bytes it had before, if it is at a terminal.
abbrev pub added_of : Option ℕ → JobState → List ℕ
added_of None job = []
added_of (Some before) job = pushed_of job before

-- A job that is at no terminal has nothing to show, and one that is at one has.
abbrev pub ShowsAs : Option ℕ → Option ℕ → Type 0
ShowsAs None None = Unit {0}
ShowsAs (Some before) (Some t) = Unit {0}
ShowsAs other elsewhere = ⊥

-- The system after a tick, from its store: it is up, or, if the store was stopped, down.
abbrev pub left_by : Bool → StoreFacts → SystemFacts
left_by true s = Down (record { disc = s.online.disc; rack = s.rack })
left_by false s = Up s

-- The system after a tick, from its store: down if the store is spent, otherwise up.
abbrev pub left_of : StoreFacts → SystemFacts
left_of s = left_by s.spent s

-- The system of a store that may have been stopped, after memory ran out within a turn.
abbrev pub LeftBy : StoreFacts → SystemFacts → Type 0
LeftBy s system =
    ((s.spent ≡ false) × (system ≡ Up s))
    ⊎ ((s.spent ≡ true) × (system ≡ Down (record { disc = s.online.disc; rack = s.rack })))

module _ {F : Type 0} (tariffs : Shared F (Bor Usage × Unit {0}) Charge) (tariff : F) where
  -- a whole turn
  pub record TookTurn (old : StoreFacts) (c : CrewState) (count number : ℕ) (failure : Option Failure) (system : SystemFacts) (c' : CrewState) (before after : Option (List ℕ)) (faults faults' : ℕ) : Type 0 where
    pub job : JobState
    pub behind : JobState
    pub turn : Turn
    pub new : StoreFacts
    pub there : job_in number c.jobs ≡ Some job
    pub takes : TakesTurn Answers tariffs tariff job old turn behind new
    pub stopped : (new.spent ≡ true) ↔ (turn ≡ turns.Broken)
    pub waits : (serial : ℕ) → turn ≡ turns.Wants serial → is_mounted (reel serial new.rack.reels) ≡ false
    pub ends : EndsTurn count number new (record c { jobs = with_job behind c.jobs }) (shown job behind) turn failure system c' before after faults faults'

  -- the first part of a turn, because memory ran out
  pub record TookPart (old : StoreFacts) (c : CrewState) (number : ℕ) (failure : Option Failure) (system : SystemFacts) (before after : Option (List ℕ)) (faults faults' : ℕ) : Type 0 where
    pub job : JobState
    pub new : StoreFacts
    pub there : job_in number c.jobs ≡ Some job
    pub ran : RanInPart Answers job.user old (turn_work job) new
    pub left : LeftBy new system
    pub failed : failure ≡ Some Memory
    pub put : after ≡ before
    pub cause : faults' ≡ faults

  -- A turn was taken, or only its first part because memory ran out.
  abbrev pub Takes : StoreFacts → CrewState → ℕ → ℕ → Option Failure → SystemFacts → CrewState → Option (List ℕ) → Option (List ℕ) → ℕ → ℕ → Type 0
  Takes old c count number failure system c' before after faults faults' =
      TookTurn old c count number failure system c' before after faults faults' ⊎ TookPart old c number failure system before after faults faults'
