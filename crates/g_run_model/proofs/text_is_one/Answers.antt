use Rattle.g_run_model.proofs.OneTextLemmas.{one_text}
use Rattle.g_run_model.proofs.text_is_one.Goals as goal

pub returns : goal.returns
returns g c tariff rule = one_text g.F.Fn tariff g.U.Fn rule c.step_is_one.ensures
