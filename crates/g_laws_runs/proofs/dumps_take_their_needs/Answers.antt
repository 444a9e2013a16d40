use Rattle.g_laws_runs.proofs.DumpLemmas.{take_needs}
use Rattle.g_laws_runs.proofs.dumps_take_their_needs.Goals as goal

pub returns : goal.returns
returns g c tariff rule = take_needs g.F.Fn tariff g.U.Fn rule (c.dumps_come_to_an_end.ensures tariff rule)
