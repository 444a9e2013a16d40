use Rattle.g_run_model.proofs.LawLemmas.{answers_are_plain}
use Rattle.g_run_model.proofs.TreeLemmas.{all_or_nothing}
use Rattle.g_laws_runs.proofs.OneTreeLemmas.{runs_on}
use Rattle.g_laws_runs.proofs.jobs_run_on_one_tree.Goals as goal

pub returns : goal.returns
returns g c tariff rule =
    runs_on g.F.Fn tariff g.U.Fn rule
    (all_or_nothing g.F.Fn tariff g.U.Fn rule c.step_is_plain.ensures.answers c.step_is_plain.ensures.refusals c.step_is_plain.ensures.stops c.step_is_plain.ensures.dumps)
    (answers_are_plain g.F.Fn tariff g.U.Fn rule c.step_is_plain.ensures.answers c.step_is_plain.ensures.refusals c.step_is_plain.ensures.stops)
