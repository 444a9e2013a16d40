use Rattle.std.proofs.Common.{subst}
use Rattle.g_day.specs.Parts.{Seen}
use Rattle.g_day.specs.Puts.{Puts}
use Rattle.g_laws_sessions.specs.Session.{tick_line}
use Rattle.g_session.proofs.TakeLemmas.{rest_told}
use Rattle.g_session.proofs.taking.rest_and_tell.Goals as goal

pub returns-in-None : goal.returns-in-None
returns-in-None g c =
    let rested = rw c.in-None.is at c.rest-day.ensures in
    let told = c.put_made-failure.ensures (tick_line c.day.inside.count) c.own_line.ensures in
    rest_told g.F.Fn c.args.rules.now.tariff.now g.U.Fn c.args.rules.now.weigh.now c.args.day c.put_made-failure.result c.rest-day.result.day _ _ _ _ _ _ rested
    (subst (λ (s : Seen). Puts c.put_made-failure.result (tick_line s.count) (g.K.Sink.written c.rest-day.new.out) (g.K.Sink.written c.put_made-failure.new.out)
    (g.K.Sink.faults c.rest-day.new.out) (g.K.Sink.faults c.put_made-failure.new.out)) c.day.view_is told)
