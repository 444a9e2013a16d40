-- A job is accepted by a crew, or refused, and the operator is informed.
use Rattle.std.specs.Prelude.{◌≡◌, ◌⊎◌, ℕ, ◌+◌, Bool, List, [], ◌∷◌, ◌++◌, Option, Some, None, codes}
use Rattle.g_job.specs.Beginning.{job_begun}
use Rattle.g_store_model.specs.State.{State}
use Rattle.g_store_meaning.specs.Reading.{StandsForState}
use Rattle.g_run_model.specs.Accounts.{knows_user}
use Rattle.g_run_model.specs.Texts.{job_text, operator_line}
use Rattle.g_job_table.specs.Crew.{CrewState}
use Rattle.g_job_table.specs.Taking.{RefusesAsIn, refusal_line}
use Rattle.g_job.specs.declared.new_job.NewJob.{NewJob}
use Rattle.g_job_table.specs.declared.taking.NotTaken.{NotTaken}
use Rattle.g_job_table.specs.declared.taking.NotTaken.TheVariants as why
use Rattle.g_day.specs.declared.progress.Failure.{Failure}
use Rattle.g_day.specs.declared.progress.Failure.TheVariants.{Memory}
use Rattle.g_day.specs.Puts.{Puts}
use Rattle.g_day.specs.System.{Down, SystemFacts, Up}

-- The crew with the job added after the others.
abbrev pub joined : NewJob → CrewState → CrewState
joined job c = record c { jobs = c.jobs ++ job_begun c.next_job job.name job.user job.time job.money job.lines ∷ []; next_job = c.next_job + 1 }

-- The job isn't refused, and is accepted.
pub record ComesIn (known : Bool) (job : NewJob) (count : ℕ) (c : CrewState) (failure : Option Failure) (c' : CrewState) (before after : Option (List ℕ)) (old new : ℕ) : Type 0 where
  pub granted : RefusesAsIn c known job.user job.time job.money None
  pub crew : c' ≡ joined job c
  pub put : Puts failure (operator_line count (job_text c.next_job (job.name ++ codes " IN"))) before after old new

-- The job is refused for this reason.
pub record IsRefused (known : Bool) (job : NewJob) (count : ℕ) (c : CrewState) (failure : Option Failure) (c' : CrewState) (before after : Option (List ℕ)) (old new : ℕ) : Type 0 where
  pub text : List ℕ
  pub refuses : RefusesAsIn c known job.user job.time job.money (Some text)
  pub crew : c' ≡ c
  pub put : Puts failure (operator_line count (codes "REFUSED " ++ text)) before after old new

-- What is printed for a job that isn't accepted.
abbrev pub TellsWhy : NotTaken → ℕ → Option Failure → Option (List ℕ) → Option (List ℕ) → ℕ → ℕ → Type 0
TellsWhy why.NoMemory count failure before after old new = (failure ≡ Some Memory) × (after ≡ before) × (new ≡ old)
TellsWhy why count failure before after old new = Puts failure (operator_line count (codes "REFUSED " ++ refusal_line why)) before after old new

-- A job is accepted, or refused, or memory ran out and nothing was done.
abbrev pub TakesJob : Bool → NewJob → ℕ → CrewState → Option Failure → CrewState → Option (List ℕ) → Option (List ℕ) → ℕ → ℕ → Type 0
TakesJob known job count c failure c' before after old new =
    ComesIn known job count c failure c' before after old new
    ⊎ (IsRefused known job count c failure c' before after old new
    ⊎ ((failure ≡ Some Memory) × (c' ≡ c) × (after ≡ before) × (new ≡ old)))

-- Whether a system that is up knows the user, in every state that its store represents. The answer is None if the system is
-- down.
abbrev pub KnowsIn : List ℕ → SystemFacts → Option Bool → Type 0
KnowsIn user (Up s) answer = (known : Bool) × (answer ≡ Some known) × ((u : State) → StandsForState s u → knows_user u user ≡ known)
KnowsIn user (Down d) answer = answer ≡ None
