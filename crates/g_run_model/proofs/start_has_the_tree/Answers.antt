use Rattle.g_run_model.proofs.TreeLemmas.{start_has_the_tree}
use Rattle.g_run_model.proofs.start_has_the_tree.Goals as goal

pub returns : goal.returns
returns g c tariff rule =
    start_has_the_tree g.F.Fn tariff g.U.Fn rule c.step_is_plain.ensures.answers c.step_is_plain.ensures.refusals c.step_is_plain.ensures.stops c.step_is_plain.ensures.dumps
