use Rattle.g_run_model.proofs.EndsLemmas.{runs_end}
use Rattle.g_run_model.proofs.jobs_come_to_an_end.Goals as goal

pub returns : goal.returns
returns g c tariff rule = runs_end g.F.Fn tariff g.U.Fn rule c.step_is_plain.ensures.answers
