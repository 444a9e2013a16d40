use Rattle.std.proofs.Common.{None, Some, refl, sym, ap, subst}
use Rattle.g_day.specs.Jobs.{KnowsIn}
use Rattle.g_day.specs.System.{IsRunning, SystemFacts, facts_of}
use Rattle.g_day.proofs.JobLemmas.{known_by}
use Rattle.g_operator.proofs.jobs.knows.Goals as goal

pub returns-in-Up : goal.returns-in-Up
returns-in-Up g c =
    let at = ap (facts_of g.D.Disc.state g.T.Tapes.rack) c.in-Up.is in
    subst (λ (f : SystemFacts). KnowsIn c.args.user.now f (Some c.is_some-known.result)) (sym at)
    (c.is_some-known.result, refl, known_by c.in-Up.store (subst IsRunning at c.requires.running) c.args.user.now c.user_time.result c.is_some-known.result c.user_time.ensures c.is_some-known.ensures)

pub returns-in-Down : goal.returns-in-Down
returns-in-Down g c = subst (λ (f : SystemFacts). KnowsIn c.args.user.now f None) (sym (ap (facts_of g.D.Disc.state g.T.Tapes.rack) c.in-Down.is)) refl
