-- A crew without jobs satisfies the rules.
use Rattle.std.proofs.Common.{refl}
use Rattle.g_job_table.proofs.NumberLemmas.{AreJobs-none}
use Rattle.g_job_table.proofs.crew.Crew.go_down.Goals as goal

pub invariant_of-self : goal.invariant_of-self
invariant_of-self c = rw c.truncate.ensures.items (AreJobs-none c.self.inside.jobs.items c.self.inside.next_job c.self.invariant.0, refl)
