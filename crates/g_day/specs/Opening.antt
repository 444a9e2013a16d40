-- Accounts open for the users of a store, in every state that it represents.
use Rattle.std.specs.Prelude.{◌≡◌, List}
use Rattle.g_entry.specs.declared.user_rec.UserRec.{UserRec}
use Rattle.g_store_model.specs.State.{State}
use Rattle.g_run_model.specs.Accounts.{Opened, rows_of, with_new}
use Rattle.g_job_table.specs.Accounts.{AreKept, HaveRows}
use Rattle.g_job_table.specs.Crew.{CrewState}

-- Users without accounts get accounts with their current budgets, and nothing else in the crew changes.
pub record Opens (users : List UserRec) (old new : CrewState) : Type 0 where
  pub accounts : (s : State) (accounts : List Opened) → HaveRows users (rows_of s) → AreKept accounts old.accounts → AreKept (with_new s accounts) new.accounts
  pub others : new ≡ record old { accounts = new.accounts }
