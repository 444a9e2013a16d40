use Rattle.g_laws_runs.proofs.UnrisenLemmas.{unrisen_text}
use Rattle.g_laws_runs.proofs.unrisen_text_is_one.Goals as goal

pub returns : goal.returns
returns g c tariff rule = unrisen_text g.F.Fn tariff g.U.Fn rule (c.text_is_one.ensures tariff rule)
