use Rattle.g_laws_lines.proofs.LawLemmas.{no_line_begins_so}
use Rattle.g_laws_lines.proofs.no_line_of_a_run_begins_so.Goals as goal

pub returns : goal.returns
returns g c tariff rule = no_line_begins_so g.F.Fn tariff g.U.Fn rule
