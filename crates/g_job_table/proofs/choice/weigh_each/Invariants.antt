-- Each of the jobs so far has its weight.
use Rattle.g_job_table.proofs.WeightLemmas.{AreFront}
use Rattle.g_job_table.proofs.choice.weigh_each.Given as goal

abbrev pub invariant-loop-job : goal.invariant-loop-job
invariant-loop-job g l = AreFront g.U.Fn l.weigh l.jobs l.job-index l.weights
