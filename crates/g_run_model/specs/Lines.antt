-- What the operator's lines do: the definitions of g_any_run for the program's jobs.
use Rattle.std.specs.Prelude.{ℕ, Bool, List, Option, Result}
use Rattle.g_plain.specs.declared.faults.StoreFault.{StoreFault}
use Rattle.g_job.specs.State.{JobState}
use Rattle.g_store_model.specs.State.{State, OpenDump}
use Rattle.g_store_model.specs.CallStep.{Outcome}
use Rattle.g_script.specs.declared.operator.Operator.{Operator}
use Rattle.g_run_model.specs.Accounts.{Opened}
use Rattle.g_run_model.specs.World.{World}
use Rattle.g_run_model.specs.TheJobs.{the_jobs}
pub use Rattle.g_run_model.specs.TheJobs.{terminal_job}
use Rattle.g_any_run.specs.Lines as any
pub use Rattle.g_any_run.specs.Lines.{is_process, disc_arms, tape_arms, first_text, no_account, is_terminal}

abbrev pub is_up : World → Bool
is_up a = any.is_up a

abbrev pub refusal : List ℕ → World → World
refusal a b = any.refusal a b

abbrev pub line_refused : StoreFault → World → World
line_refused a b = any.line_refused a b

abbrev pub tells : {R : Type 0} → (R → State → World → World) → Result R StoreFault → State → World → World
tells a b c d = any.tells the_jobs a b c d

abbrev pub up_with : List ℕ → State → World → World
up_with a b c = any.up_with a b c

abbrev pub now_stands : List ℕ → State → World → World
now_stands a b c = any.now_stands a b c

abbrev pub room_checks : World → ℕ → ℕ → Opened → List (Bool × List ℕ)
room_checks a b c d = any.room_checks the_jobs a b c d

abbrev pub job_checks : World → List ℕ → ℕ → ℕ → Opened → List (Bool × List ℕ)
job_checks a b c d e = any.job_checks the_jobs a b c d e

abbrev pub job_refusal : World → List ℕ → ℕ → ℕ → Option (List ℕ)
job_refusal a b c d = any.job_refusal the_jobs a b c d

abbrev pub taken_in : List ℕ → List ℕ → ℕ → ℕ → List (List ℕ) → World → World
taken_in a b c d e f = any.taken_in the_jobs a b c d e f

abbrev pub job_line : Option (List ℕ) → World → World → World
job_line a b c = any.job_line a b c

abbrev pub sits_at : ℕ → JobState → Bool
sits_at a b = any.sits_at the_jobs a b

abbrev pub job_at : ℕ → List JobState → Option JobState
job_at a b = any.job_at the_jobs a b

abbrev pub open_at : ℕ → List JobState → Option JobState
open_at a b = any.open_at the_jobs a b

abbrev pub login_checks : World → ℕ → List ℕ → ℕ → Opened → List (Bool × List ℕ)
login_checks a b c d e = any.login_checks the_jobs a b c d e

abbrev pub login_refusal : World → ℕ → List ℕ → ℕ → Option (List ℕ)
login_refusal a b c d = any.login_refusal the_jobs a b c d

abbrev pub logged_in : ℕ → List ℕ → ℕ → World → World
logged_in a b c d = any.logged_in the_jobs a b c d

abbrev pub changed_at : ℕ → (JobState → JobState) → Option JobState → World → World
changed_at a b c d = any.changed_at the_jobs a b c d

abbrev pub at_terminal : ℕ → (JobState → JobState) → World → World
at_terminal a b c = any.at_terminal the_jobs a b c

abbrev pub shut_with : Option OpenDump → World → World
shut_with a b = any.shut_with the_jobs a b

module _ (outcome : Outcome) where
  abbrev pub Asks : {R : Type 0} → Bool → StoreFault → (Result R StoreFault → State → Type 0) → (R → State → World → World) → World → World → Type 0
  Asks may fault Does told w new = any.Asks the_jobs outcome may fault Does told w new

  abbrev pub Gives : Bool → StoreFault → World → World → World → Type 0
  Gives may fault done w new = any.Gives the_jobs outcome may fault done w new

  abbrev pub LineGives : Operator → World → World → Type 0
  LineGives what w new = any.LineGives the_jobs outcome what w new
