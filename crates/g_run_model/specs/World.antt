-- The world of a run: the definitions of g_any_run for the program's jobs.
use Rattle.std.specs.Prelude.{ℕ, Bool, List, Option}
use Rattle.g_turn.specs.State.{Work}
use Rattle.g_job.specs.State.{JobState}
use Rattle.g_store_model.specs.State.{State}
use Rattle.g_script.specs.declared.operator.Timed.{Timed}
use Rattle.g_run_model.specs.TheJobs.{the_jobs}
use Rattle.g_any_run.specs.World as any
pub use Rattle.g_any_run.specs.World.{Phase, Between, Stepped, Turned}

abbrev pub World : Type 0
World = any.World JobState Work

abbrev pub KeepsLines : World → World → Type 0
KeepsLines w new = any.KeepsLines w new

abbrev pub start : List Timed → Option ℕ → State → World
start lines bad s = any.start lines bad s

abbrev pub has_reel : State → JobState → Bool
has_reel a b = any.has_reel the_jobs a b

abbrev pub can_step : State → JobState → Bool
can_step a b = any.can_step the_jobs a b

abbrev pub able : World → List JobState
able a = any.able the_jobs a

abbrev pub is_dumping : World → Bool
is_dumping a = any.is_dumping a

abbrev pub has_none : List JobState → Bool
has_none a = any.has_none a

abbrev pub nothing_steps : World → Bool
nothing_steps a = any.nothing_steps the_jobs a

abbrev pub is_due : World → Bool
is_due a = any.is_due a

abbrev pub job_of : World → ℕ → Option JobState
job_of a b = any.job_of the_jobs a b

abbrev pub with_job : JobState → List JobState → List JobState
with_job a b = any.with_job the_jobs a b

abbrev pub without_job : ℕ → List JobState → List JobState
without_job a b = any.without_job the_jobs a b

abbrev pub shows : JobState → JobState → World → World
shows a b c = any.shows the_jobs a b c

abbrev pub says : List ℕ → World → World
says a b = any.says a b

abbrev pub goes_down : List ℕ → State → World → World
goes_down a b c = any.goes_down the_jobs a b c

abbrev pub system_stopped : State → World → World
system_stopped a b = any.system_stopped the_jobs a b

abbrev pub closed : World → World
closed a = any.closed the_jobs a
