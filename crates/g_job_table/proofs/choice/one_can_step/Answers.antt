-- The job found is one that can step.
use Rattle.std.proofs.Common.{refl, sym, ◌∙◌}
use Rattle.std.proofs.lemmas.Option.{slice_get_read}
use Rattle.g_job_table.proofs.ChoiceLemmas.{able-one}
use Rattle.g_job_table.proofs.choice.one_can_step.Goals as goal

pub returns-then-can_step : goal.returns-then-can_step
returns-then-can_step g c = λ s tells.
    able-one s c.args.jobs.now c.loop-job.job-index c.job-item.result
    (slice_get_read c.args.jobs.now _ c.loop-job.job-index c.job-item.result refl c.loop-job-test.true c.job-item.is) (sym (c.can_step.ensures s tells) ∙ c.if-can_step.true)
