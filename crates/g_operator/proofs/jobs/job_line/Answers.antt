use Rattle.std.proofs.Common.{None, Some, refl, subst}
use Rattle.g_day.specs.Jobs.{KnowsIn}
use Rattle.g_day.specs.Parts.{Seen}
use Rattle.g_operator.proofs.DayLemmas.{same_line}
use Rattle.g_day.proofs.JobLemmas.{job_on, no_job_on}
use Rattle.g_operator.proofs.jobs.job_line.Goals as goal

pub returns-in-Some : goal.returns-in-Some
returns-in-Some g c =
    same_line refl c.take_job.ensures.same
    (job_on c.args.job c.args.day.system c.in-Some.known (subst (λ (s : Seen). KnowsIn c.args.job.user s.system (Some c.in-Some.known)) c.day.view_is c.in-Some.ensures) c.args.day.crew c.requires.ready
    c.args.day.count c.take_job.result.failure c.take_job.result.day.crew _ _ _ _ c.take_job.ensures.taken)

pub returns-in-None : goal.returns-in-None
returns-in-None g c =
    same_line refl c.refuse_or_go_down.ensures.day
    (no_job_on c.args.job c.args.day.system (subst (λ (s : Seen). KnowsIn c.args.job.user s.system None) c.day.view_is c.in-None.ensures) c.args.day.crew c.requires.ready
    c.args.day.count c.refuse_or_go_down.result.failure c.refuse_or_go_down.result.day.crew _ _ _ _ c.refuse_or_go_down.ensures.told)
