-- The job is appended to the others.
use Rattle.std.proofs.Common.{ap, arith, length, sym, ◌∙◌}
use Rattle.g_job_table.specs.Crew.{CrewState}
use Rattle.g_job_table.proofs.NumberLemmas.{AreJobs-push}
use Rattle.g_job_table.proofs.SeatLemmas.{seats-more}
use Rattle.g_job_table.proofs.crew.Crew.push.Goals as goal

pub invariant_of-self : goal.invariant_of-self
invariant_of-self c =
    let jobs = c.self.inside.jobs.items in
    rw c.in-Ok.ensures.items (
      AreJobs-push jobs c.self.inside.next_job c.args.job c.self.invariant.0
          (omega (arith, c.requires.few, ap (λ (v : CrewState). length v.jobs) c.self.view_is)) (c.requires.next ∙ sym (ap (λ (v : CrewState). v.next_job) c.self.view_is))
          c.requires.allowed,
      c.self.invariant.1 ∙ sym (seats-more jobs c.args.job c.requires.elsewhere),
    )
