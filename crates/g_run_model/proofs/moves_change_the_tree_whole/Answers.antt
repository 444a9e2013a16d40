use Rattle.g_run_model.proofs.TreeLemmas.{all_or_nothing, rises_on}
use Rattle.g_run_model.proofs.moves_change_the_tree_whole.Goals as goal

pub returns-clause-moves : goal.returns-clause-moves
returns-clause-moves g c tariff rule =
    all_or_nothing g.F.Fn tariff g.U.Fn rule c.step_is_plain.ensures.answers c.step_is_plain.ensures.refusals c.step_is_plain.ensures.stops c.step_is_plain.ensures.dumps

pub returns-clause-rising : goal.returns-clause-rising
returns-clause-rising g c tariff rule = rises_on g.F.Fn tariff g.U.Fn rule
