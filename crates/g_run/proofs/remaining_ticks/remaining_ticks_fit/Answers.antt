use Rattle.std.proofs.Common.{◌≤◌, subst}
use Rattle.g_day.specs.Parts.{Seen}
use Rattle.g_day.specs.System.{facts_of}
use Rattle.g_ticks.specs.Tick.{left}
use Rattle.g_run.proofs.LittleLemmas.{little}
use Rattle.g_run.proofs.remaining_ticks.remaining_ticks_fit.Goals as goal

pub returns : goal.returns
returns g c =
    subst (λ (s : Seen). left s ≤ 4358967360) c.day.view_is (little (facts_of g.D.Disc.state g.T.Tapes.rack c.day.inside.system) c.day.inside.crew c.day.inside.count c.jobs-jobs.ensures.numbers c.dump_is_short.ensures)
