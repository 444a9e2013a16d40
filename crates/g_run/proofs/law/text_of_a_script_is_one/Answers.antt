use Rattle.g_run.proofs.LawLemmas.{one_text}
use Rattle.g_run.proofs.law.text_of_a_script_is_one.Goals as goal

pub returns : goal.returns
returns g c tariff rule = one_text g.F.Fn tariff g.U.Fn rule (c.text_is_one.ensures tariff rule)
