use Rattle.std.proofs.Common.{arith, subst}
use Rattle.std.specs.Fn.{FnReturnsAt}
use Rattle.g_rules.specs.declared.rule.Standing.{Standing}
use Rattle.g_job_table.proofs.WeightLemmas.{front-more, front-none, front-whole}
use Rattle.g_job_table.proofs.choice.weigh_each.Goals as goal

pub returns : goal.returns
returns g c = front-whole g.U.Fn c.args.weigh.now c.args.jobs.now c.loop-job.job-index c.loop-job.weights (omega arith) c.loop-job.invariant
