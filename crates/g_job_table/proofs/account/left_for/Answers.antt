-- Each of the user's jobs holds its allowances.
use Rattle.g_job_table.proofs.AccountLemmas.{IsLeft-more, IsLeft-none}
use Rattle.g_job_table.proofs.account.left_for.Goals as goal

pub loop-job-init : goal.loop-job-init
loop-job-init c = IsLeft-none c.args.accounts.now c.args.user.now c.account_for-left.result c.account_for-left.ensures

pub loop-job-preserved : goal.loop-job-preserved
loop-job-preserved c =
    IsLeft-more c.args.accounts.now c.args.jobs.now c.loop-job.job-index c.job-item.result c.args.user.now c.loop-job.left c.less_held-left.result c.loop-job.invariant c.loop-job-test.true
    c.job-item.is c.less_held-left.ensures
