-- In every world of the crew the user is checked before the room.
use Rattle.std.proofs.Common.{◌∙◌}
use Rattle.g_job_table.proofs.TakingLemmas.{refused-known, refused-unknown}
use Rattle.g_job_table.proofs.taking.refusal.Goals as goal

pub returns-then-not-known-clause-refusal : goal.returns-then-not-known-clause-refusal
returns-then-not-known-clause-refusal c = λ next w crew knows.
    refused-unknown w _ c.args.known c.args.job.now.user c.args.job.now.time c.args.job.now.money crew knows c.if-not-known.true

pub returns-clause-refusal : goal.returns-clause-refusal
returns-clause-refusal c = λ next w crew knows.
    refused-known w _ c.args.known c.args.job.now.user c.args.job.now.time c.args.job.now.money crew knows c.if-not-known.false
    ∙ c.room_refusal.ensures.refusal next w crew
