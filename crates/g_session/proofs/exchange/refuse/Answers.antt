use Rattle.g_laws_sessions.specs.Session.{refusal_line}
use Rattle.g_session.proofs.exchange.refuse.Goals as goal

pub returns : goal.returns
returns g c = c.put_made.ensures (refusal_line c.args.number) c.own_line.ensures
