-- Each of the users so far has an account, and the old accounts come first.
use Rattle.std.proofs.Common.{◌≡◌, ◌++◌, List, take}
use Rattle.g_job_table.specs.Keeping.{Opens}
use Rattle.g_job_table.specs.declared.account.Account.{Account}
use Rattle.g_job_table.proofs.account.open_each.Given as goal

abbrev pub invariant-loop-place : goal.invariant-loop-place
invariant-loop-place l =
    Opens l.fn.accounts.items (take l.place l.users) l.accounts.items × ((more : List Account) × (l.accounts.items ≡ l.fn.accounts.items ++ more))
