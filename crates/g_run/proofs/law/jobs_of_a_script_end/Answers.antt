use Rattle.g_run.proofs.LawLemmas.{jobs_end}
use Rattle.g_run.proofs.law.jobs_of_a_script_end.Goals as goal

pub returns : goal.returns
returns g c tariff rule = jobs_end g.F.Fn tariff g.U.Fn rule (c.jobs_come_to_an_end.ensures tariff rule)
