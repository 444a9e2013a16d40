-- The accounts of users: the definitions of g_any_run for the program's jobs.
use Rattle.std.specs.Prelude.{ℕ, List}
use Rattle.g_job.specs.State.{JobState}
use Rattle.g_run_model.specs.TheJobs.{the_jobs}
use Rattle.g_any_run.specs.Accounts as any
pub use Rattle.g_any_run.specs.Accounts.{Spent, Opened, tree_of, rows_of, knows_user, opened_of, has_account, with_new, account_of}

abbrev pub jobs_of : List ℕ → List JobState → List JobState
jobs_of a b = any.jobs_of the_jobs a b

abbrev pub time_left : Opened → List JobState → ℕ
time_left a b = any.time_left the_jobs a b

abbrev pub money_left : Opened → List JobState → ℕ
money_left a b = any.money_left the_jobs a b

abbrev pub settled : JobState → List Opened → List Opened
settled a b = any.settled the_jobs a b
