-- None of the jobs so far can step.
use Rattle.std.proofs.Common.{◌≡◌, [], take}
use Rattle.g_store_model.specs.State.{State}
use Rattle.g_job_table.specs.Choice.{TellsMounted, able_in}
use Rattle.g_job_table.proofs.choice.one_can_step.Given as goal

abbrev pub invariant-loop-job : goal.invariant-loop-job
invariant-loop-job g l = (s : State) → TellsMounted g.M.Fn l.mounted s → able_in s (take l.job-index l.jobs) ≡ []
