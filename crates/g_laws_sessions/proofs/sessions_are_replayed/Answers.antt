use Rattle.g_laws_sessions.proofs.SessionLemmas.{sessions_are_replayed}
use Rattle.g_laws_sessions.proofs.sessions_are_replayed.Goals as goal

pub returns : goal.returns
returns g c tariff rule = sessions_are_replayed g.F.Fn tariff g.U.Fn rule (c.text_is_one.ensures tariff rule)
