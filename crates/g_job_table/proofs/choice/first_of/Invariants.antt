-- Of the jobs so far that can step the first is remembered; no later job has a smaller number.
use Rattle.std.proofs.Common.{◌≤◌}
use Rattle.g_store_model.specs.State.{State}
use Rattle.g_job_table.specs.Choice.{TellsMounted}
use Rattle.g_job_table.proofs.ChoiceLemmas.{IsSeen, NoLess}
use Rattle.g_job_table.proofs.choice.first_of.Given as goal

abbrev pub invariant-loop-place : goal.invariant-loop-place
invariant-loop-place g l =
    (l.able ≤ l.place) × NoLess l.jobs l.place l.first × ((s : State) → TellsMounted g.M.Fn l.mounted s → IsSeen g.U.Fn l.weigh s l.jobs l.place l.able l.first)
