use Rattle.g_laws_lines.proofs.LawLemmas.{lines_are_whole}
use Rattle.g_laws_lines.proofs.lines_of_a_run_are_whole.Goals as goal

pub returns : goal.returns
returns g c tariff rule = lines_are_whole g.F.Fn tariff g.U.Fn rule
