-- The next job doesn't have the number.
use Rattle.std.proofs.Common.{ap, ne_eqb, ◌==◌, ◌∙◌}
use Rattle.g_rules.specs.declared.rule.Standing.{Standing}
use Rattle.g_job.specs.State.{JobState}
use Rattle.g_job_table.proofs.AccountLemmas.{find_more}
use Rattle.g_job_table.proofs.place.searched.Goals as goal

pub loop-place-preserved : goal.loop-place-preserved
loop-place-preserved c =
    find_more (λ (j : JobState). j.number == c.args.number) c.args.jobs.now c.loop-place.place c.index-jobs-place.result c.loop-place-test.true c.index-jobs-place.is c.loop-place.invariant
    (ne_eqb c.index-jobs-place.result.number c.args.number (λ e. c.if-standing-number.false (ap (λ (s : Standing). s.number) c.standing.ensures.value ∙ e)))
