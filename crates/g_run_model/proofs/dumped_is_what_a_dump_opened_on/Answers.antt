use Rattle.g_run_model.proofs.DumpedLemmas.{dumped_is_opened}
use Rattle.g_run_model.proofs.dumped_is_what_a_dump_opened_on.Goals as goal

pub returns : goal.returns
returns g c tariff rule = dumped_is_opened g.F.Fn tariff g.U.Fn rule
