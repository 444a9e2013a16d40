-- Jobs and accounts by their places, as the crew's own functions use them.
use Rattle.std.specs.Prelude.{◌≡◌, ℕ, ◌-◌, true, List, Option, Some, find, slice_get, slice_set, sum_by, unwrap_or, if◌then◌else◌}
use Rattle.std.specs.Option.{option_map, option_or}
use Rattle.g_name.specs.Order.{same_text}
use Rattle.g_entry.specs.declared.user_rec.UserRec.{UserRec}
use Rattle.g_job.specs.State.{JobState}
use Rattle.g_run_model.specs.Accounts.{jobs_of}
use Rattle.g_job_table.specs.Accounts.{charged, kept_for, less}
use Rattle.g_job_table.specs.declared.account.Account.{Account}

-- The user's account is at this place, so charging it writes there.
pub record IsPlaceFor (kept : List Account) (user : List ℕ) (place : ℕ) : Type 0 where
  pub account : Account
  pub there : slice_get kept place ≡ Some account
  pub named : same_text account.user user ≡ true
  pub found : kept_for kept user ≡ Some account
  pub charge : (j : JobState) → j.user ≡ user → charged j kept ≡ slice_set kept place (less j account)

-- A job of this number is at this place.
pub record IsPlaceOf (jobs : List JobState) (number place : ℕ) : Type 0 where
  pub job : JobState
  pub there : slice_get jobs place ≡ Some job
  pub named : job.number ≡ number

-- The account that opens for a user.
abbrev pub opening : UserRec → Account
opening r = record { user = r.user; time = r.time; money = r.money }

-- The record of a user.
abbrev pub user_in : List UserRec → List ℕ → Option UserRec
user_in users user = find (λ r. same_text r.user user) users

-- Each account is unchanged, and each of these users who had none has one now.
abbrev pub Opens : List Account → List UserRec → List Account → Type 0
Opens old users new = (user : List ℕ) → kept_for new user ≡ option_or (kept_for old user) (option_map opening (user_in users user))

-- An account of this user with nothing left.
abbrev pub empty_for : List ℕ → Account
empty_for user = record { user = user; time = 0; money = 0 }

-- What the user has left while these jobs hold their allowances.
pub record IsLeft (kept : List Account) (jobs : List JobState) (user : List ℕ) (left : Account) : Type 0 where
  pub time : left.time ≡ (unwrap_or (kept_for kept user) (empty_for user)).time - sum_by (λ j. j.allowance) (jobs_of user jobs)
  pub money : left.money ≡ (unwrap_or (kept_for kept user) (empty_for user)).money - sum_by (λ j. j.money) (jobs_of user jobs)

-- The account less a job's allowances, if the job is the user's.
abbrev pub less_held : List ℕ → JobState → Account → Account
less_held user j left = if same_text j.user user then record left { time = left.time - j.allowance; money = left.money - j.money } else left
