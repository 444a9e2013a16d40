-- If the user has no account, none is charged.
use Rattle.std.proofs.Common.{ap, sym, ◌∙◌}
use Rattle.g_job_table.specs.Accounts.{kept_for}
use Rattle.g_job_table.proofs.AccountLemmas.{charged-none}
use Rattle.g_job_table.proofs.account.charge.Goals as goal

pub returns-in_default : goal.returns-in_default
returns-in_default c = sym (charged-none c.args.job.now c.args.accounts.now (ap (kept_for c.args.accounts.now) (sym c.user.ensures) ∙ c.in_default.ensures))
