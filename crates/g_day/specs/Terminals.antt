-- A job is accepted at a terminal, a line is typed there, or it is logged out; and what is printed for it.
use Rattle.std.specs.Prelude.{◌≡◌, ◌⊎◌, ℕ, ◌+◌, Bool, true, false, List, [], ◌∷◌, ◌++◌, Option, Some, None, codes}
use Rattle.g_job.specs.State.{JobState}
use Rattle.g_mop.specs.Seats.{busy_text, none_text}
use Rattle.g_mop.specs.TerminalLines.{shown_at, terminal_name}
use Rattle.g_run_model.specs.Lines.{open_at, terminal_job}
use Rattle.g_run_model.specs.Texts.{job_text, operator_line}
use Rattle.g_run_model.specs.World.{with_job}
use Rattle.g_job_table.specs.Crew.{CrewState}
use Rattle.g_job_table.specs.Seating.{RefusesLoginAsIn}
use Rattle.g_job_table.specs.declared.seating.NewLogin.{NewLogin}
use Rattle.g_job_table.specs.declared.seating.NotSeated.{NotSeated}
use Rattle.g_job_table.specs.declared.seating.NotSeated.TheVariants as why
use Rattle.g_day.specs.declared.progress.Failure.{Failure}
use Rattle.g_day.specs.declared.progress.Failure.TheVariants.{Memory}
use Rattle.g_day.specs.Jobs.{TellsWhy}
use Rattle.g_day.specs.Puts.{Puts}
use Rattle.g_day.specs.System.{Down, SystemFacts, Up}

-- Whether the system is up.
abbrev pub is_up_in : SystemFacts → Bool
is_up_in (Up s) = true
is_up_in (Down d) = false

-- The crew with the terminal's job added after the others.
abbrev pub seated_in : NewLogin → CrewState → CrewState
seated_in login c = record c { jobs = c.jobs ++ terminal_job c.next_job login.terminal login.user login.time ∷ []; next_job = c.next_job + 1 }

-- The operator's line, and the first line of the job's file with the terminal's mark.
abbrev pub login_text : ℕ → ℕ → NewLogin → List ℕ
login_text count number login =
    operator_line count (job_text number (terminal_name login.terminal ++ codes " IN")) ++ shown_at login.terminal (terminal_job number login.terminal login.user login.time).monitor

-- The login isn't refused, and the job is accepted.
pub record SitsDown (known : Bool) (login : NewLogin) (count : ℕ) (c : CrewState) (failure : Option Failure) (c' : CrewState) (before after : Option (List ℕ)) (old new : ℕ) : Type 0 where
  pub granted : RefusesLoginAsIn c known login.terminal login.user login.time None
  pub crew : c' ≡ seated_in login c
  pub put : Puts failure (login_text count c.next_job login) before after old new

-- The login is refused for this reason.
pub record IsTurnedAway (known : Bool) (login : NewLogin) (count : ℕ) (c : CrewState) (failure : Option Failure) (c' : CrewState) (before after : Option (List ℕ)) (old new : ℕ) : Type 0 where
  pub text : List ℕ
  pub refuses : RefusesLoginAsIn c known login.terminal login.user login.time (Some text)
  pub crew : c' ≡ c
  pub put : Puts failure (operator_line count (codes "REFUSED " ++ text)) before after old new

-- What is printed for a terminal's job that isn't accepted.
abbrev pub TellsSeat : NotSeated → ℕ → Option Failure → Option (List ℕ) → Option (List ℕ) → ℕ → ℕ → Type 0
TellsSeat (why.TerminalBusy t) count failure before after old new = Puts failure (operator_line count (codes "REFUSED " ++ busy_text t)) before after old new
TellsSeat (why.NotTaken reason) count failure before after old new = TellsWhy reason count failure before after old new

-- Memory ran out and nothing was done.
abbrev pub DidNothing : CrewState → Option Failure → CrewState → Option (List ℕ) → Option (List ℕ) → ℕ → ℕ → Type 0
DidNothing c failure c' before after old new = (failure ≡ Some Memory) × (c' ≡ c) × (after ≡ before) × (new ≡ old)

-- A job is accepted at a terminal, or refused, or memory ran out and nothing was done.
abbrev pub SeatsJob : Bool → NewLogin → ℕ → CrewState → Option Failure → CrewState → Option (List ℕ) → Option (List ℕ) → ℕ → ℕ → Type 0
SeatsJob known login count c failure c' before after old new =
    SitsDown known login count c failure c' before after old new
    ⊎ (IsTurnedAway known login count c failure c' before after old new ⊎ DidNothing c failure c' before after old new)

-- The job at this terminal, whose document is held open, was changed, and nothing is printed.
pub record IsChanged (t : ℕ) (change : JobState → JobState) (c : CrewState) (failure : Option Failure) (c' : CrewState) (before after : Option (List ℕ)) (old new : ℕ) : Type 0 where
  pub job : JobState
  pub there : open_at t c.jobs ≡ Some job
  pub crew : c' ≡ record c { jobs = with_job (change job) c.jobs }
  pub untold : (failure ≡ None) × (after ≡ before) × (new ≡ old)

-- There is no such job.
pub record IsNowhere (t count : ℕ) (c : CrewState) (failure : Option Failure) (c' : CrewState) (before after : Option (List ℕ)) (old new : ℕ) : Type 0 where
  pub none : open_at t c.jobs ≡ None
  pub crew : c' ≡ c
  pub put : Puts failure (operator_line count (codes "REFUSED " ++ none_text t)) before after old new

-- The terminal's job is changed, or there is none, or memory ran out and nothing was done.
abbrev pub ChangesAt : ℕ → (JobState → JobState) → ℕ → CrewState → Option Failure → CrewState → Option (List ℕ) → Option (List ℕ) → ℕ → ℕ → Type 0
ChangesAt t change count c failure c' before after old new =
    IsChanged t change c failure c' before after old new
    ⊎ (IsNowhere t count c failure c' before after old new ⊎ DidNothing c failure c' before after old new)
