use Rattle.g_laws_runs.proofs.TurnLemmas.{turns_print}
use Rattle.g_laws_runs.proofs.turns_print_plainly.Goals as goal

pub returns : goal.returns
returns g c tariff rule = turns_print g.F.Fn tariff g.U.Fn rule c.step_is_plain.ensures.answers c.step_is_plain.ensures.refusals c.step_is_plain.ensures.stops
