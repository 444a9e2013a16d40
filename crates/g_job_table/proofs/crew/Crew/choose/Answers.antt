-- The number of the first of the jobs that can step is that of the chosen job.
use Rattle.std.proofs.Common.{List, Some, subst, sym}
use Rattle.g_job.specs.State.{JobState}
use Rattle.g_job_table.specs.Choice.{IsFirst, able_in}
use Rattle.g_job_table.specs.Numbers.{Rise}
use Rattle.g_job_table.proofs.ChoiceLemmas.{Chooses-first}
use Rattle.g_job_table.proofs.crew.Crew.choose.Goals as goal

pub returns-in-Some : goal.returns-in-Some
returns-in-Some g c = λ s tells.
    Chooses-first g.U.Fn c.args.weigh.now s 1 c.args.self.now.jobs c.args.self.now.next_job c.in-Some.first c.jobs.ensures.numbers.rise
    (subst (λ (js : List JobState). IsFirst g.U.Fn c.args.weigh.now (able_in s js) (Some c.in-Some.first)) c.jobs.ensures.jobs (c.in-Some.ensures s tells))

pub first_of-requires-clause-rise : goal.first_of-requires-clause-rise
first_of-requires-clause-rise g c =
    (c.args.self.now.next_job, subst (λ (js : List JobState). Rise 1 js c.args.self.now.next_job) (sym c.jobs.ensures.jobs) c.jobs.ensures.numbers.rise)
