-- None of the accounts so far is the user's.
use Rattle.std.proofs.Common.{◌≡◌, None, take}
use Rattle.g_job_table.specs.Accounts.{kept_for}
use Rattle.g_job_table.proofs.account.place_for.Given as goal

abbrev pub invariant-loop-place : goal.invariant-loop-place
invariant-loop-place l = kept_for (take l.place l.accounts) l.user ≡ None
