-- What is left while the jobs so far hold their allowances.
use Rattle.std.proofs.Common.{take}
use Rattle.g_job_table.specs.Keeping.{IsLeft}
use Rattle.g_job_table.proofs.account.left_for.Given as goal

abbrev pub invariant-loop-job : goal.invariant-loop-job
invariant-loop-job l = IsLeft l.accounts (take l.job-index l.jobs) l.user l.left
