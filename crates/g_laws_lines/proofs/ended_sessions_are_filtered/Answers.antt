use Rattle.g_laws_lines.proofs.SessionTextLemmas.{ended_sessions_are_filtered}
use Rattle.g_laws_lines.proofs.ended_sessions_are_filtered.Goals as goal

pub returns : goal.returns
returns g c tariff rule = ended_sessions_are_filtered g.F.Fn tariff g.U.Fn rule c.own_lines_are_marked.ensures
