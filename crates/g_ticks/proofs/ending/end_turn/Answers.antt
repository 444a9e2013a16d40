-- By whether the job is at a terminal.
use Rattle.std.proofs.Common.{None, Option, Some, subst, ℕ}
use Rattle.g_ticks.specs.Turning.{EndsTurn, ShowsAs, added_of}
use Rattle.g_ticks.proofs.EndedLemmas.{shows_none, shows_some}
use Rattle.g_ticks.proofs.ending.end_turn.Goals as goal

pub end_untold-requires-clause-there : goal.end_untold-requires-clause-there
end_untold-requires-clause-there g c =
    let (job, there, shows) = c.requires.there in
    (job, there, shows_none job.terminal (subst (λ (o : Option ℕ). ShowsAs o job.terminal) c.in-None.is shows))

pub end_shown-requires-clause-there : goal.end_shown-requires-clause-there
end_shown-requires-clause-there g c =
    let (job, there, shows) = c.requires.there in
    let (t, at) = shows_some c.in-Some.before job.terminal (subst (λ (o : Option ℕ). ShowsAs o job.terminal) c.in-Some.is shows) in
    (job, t, there, at)
