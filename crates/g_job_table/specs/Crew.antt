-- The jobs and accounts of a run.
use Rattle.std.specs.Prelude.{◌≡◌, ℕ, List}
use Rattle.g_job.specs.State.{JobState}
use Rattle.g_run_model.specs.World.{World}
use Rattle.g_job_table.specs.Accounts.{AreKept}
use Rattle.g_job_table.specs.declared.account.Account.{Account}

-- THE CREW: the jobs that were taken in and aren't over, in order of number; the accounts of users; the number of the next job.
pub record CrewState : Type 0 where
  pub jobs : List JobState
  pub accounts : List Account
  pub next_job : ℕ

-- The crew of a world.
pub record IsCrewOf (w : World) (c : CrewState) : Type 0 where
  pub jobs : w.jobs ≡ c.jobs
  pub accounts : AreKept w.accounts c.accounts
  pub next_job : w.next_job ≡ c.next_job
