use Rattle.g_run_model.proofs.LawLemmas.{answers_are_plain}
use Rattle.g_run_model.proofs.calls_are_answered_plainly.Goals as goal

pub returns : goal.returns
returns g c tariff rule =
    answers_are_plain g.F.Fn tariff g.U.Fn rule c.step_is_plain.ensures.answers c.step_is_plain.ensures.refusals c.step_is_plain.ensures.stops
