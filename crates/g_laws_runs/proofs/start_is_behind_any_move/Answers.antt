use Rattle.g_run_model.proofs.TreeLemmas.{all_or_nothing}
use Rattle.g_laws_runs.proofs.LaterLemmas.{start_is_behind}
use Rattle.g_laws_runs.proofs.start_is_behind_any_move.Goals as goal

pub returns : goal.returns
returns g c tariff rule =
    start_is_behind g.F.Fn tariff g.U.Fn rule
    (all_or_nothing g.F.Fn tariff g.U.Fn rule c.step_is_plain.ensures.answers c.step_is_plain.ensures.refusals c.step_is_plain.ensures.stops c.step_is_plain.ensures.dumps)
