use Rattle.std.proofs.Common.{◌≡◌, ◌+◌, ◌<◌, refl, sym, subst}
use Rattle.g_day.specs.Parts.{Seen, seen}
use Rattle.g_day.specs.System.{facts_of}
use Rattle.g_day.specs.Terminals.{SeatsJob}
use Rattle.g_operator.proofs.TerminalLemmas.{seated_is, sent_away_is}
use Rattle.g_operator.proofs.terminals.seat_job.Goals as goal

pub login-requires-clause-numbers : goal.login-requires-clause-numbers
login-requires-clause-numbers g c = subst (λ (s : Seen). s.crew.next_job + 1 < 18446744073709551616) (sym c.day.view_is) c.requires.numbers

pub logged_in-made-requires-clause-there : goal.logged_in-made-requires-clause-there
logged_in-made-requires-clause-there g c = (_, c.in-Ok.ensures.there)

pub returns-in-Ok-clause-same : goal.returns-in-Ok-clause-same
returns-in-Ok-clause-same g c =
    subst (λ (s : Seen). seen (facts_of g.D.Disc.state g.T.Tapes.rack c.day.inside.system) c.login.new.self c.day.inside.count ≡ record s { crew = c.login.new.self }) c.day.view_is refl

pub returns-in-Ok-clause-seated : goal.returns-in-Ok-clause-seated
returns-in-Ok-clause-seated g c =
    subst (λ (s : Seen). SeatsJob c.args.known c.args.login s.count s.crew c.put_made-failure.result c.login.new.self
    (g.K.Sink.written c.args.out.now) (g.K.Sink.written c.put_made-failure.new.out) (g.K.Sink.faults c.args.out.now) (g.K.Sink.faults c.put_made-failure.new.out)) c.day.view_is
    (seated_is c.args.known c.args.login c.day.inside.count c.day.inside.crew c.in-Ok.number c.put_made-failure.result c.login.new.self _ _ _ _ c.in-Ok.ensures.refusal c.in-Ok.ensures.ok.0 c.in-Ok.ensures.ok.1
    c.logged_in-made.result c.in-Ok.ensures.there c.logged_in-made.ensures c.put_made-failure.ensures)

pub returns-in-Err-clause-same : goal.returns-in-Err-clause-same
returns-in-Err-clause-same g c =
    subst (λ (s : Seen). seen (facts_of g.D.Disc.state g.T.Tapes.rack c.day.inside.system) c.login.new.self c.day.inside.count ≡ record s { crew = c.login.new.self }) c.day.view_is refl

pub returns-in-Err-clause-seated : goal.returns-in-Err-clause-seated
returns-in-Err-clause-seated g c =
    subst (λ (s : Seen). SeatsJob c.args.known c.args.login s.count s.crew c.seat_refused-failure.result c.login.new.self
    (g.K.Sink.written c.args.out.now) (g.K.Sink.written c.seat_refused-failure.new.out) (g.K.Sink.faults c.args.out.now) (g.K.Sink.faults c.seat_refused-failure.new.out)) c.day.view_is
    (sent_away_is c.args.known c.args.login c.day.inside.count c.day.inside.crew c.in-Err.why c.seat_refused-failure.result c.login.new.self _ _ _ _ c.in-Err.ensures.refusal c.in-Err.ensures.err c.seat_refused-failure.ensures)
