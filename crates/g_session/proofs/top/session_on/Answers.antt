use Rattle.std.proofs.Common.{◌≡◌, ◌++◌, ℕ, true, List, [], Option, None, refl, sym, ◌∙◌, ap, subst}
use Rattle.g_day.specs.declared.progress.Failure.{Failure}
use Rattle.g_day.specs.Parts.{Seen}
use Rattle.g_run.specs.ScriptEnd.{ClosesBy, both}
use Rattle.g_run_model.specs.Devices.{Devices}
use Rattle.g_run_model.specs.Texts.{closing, waiting_files}
use Rattle.g_session.specs.Ending.{DidSession, KeepsMany, first_seen}
use Rattle.g_session.specs.Exchanging.{failure_of}
use Rattle.g_session.specs.Standing.{serials_in}
use Rattle.g_session.proofs.AnewLemmas.{anew_start}
use Rattle.g_session.proofs.LinesLemmas.{stands_start}
use Rattle.g_session.proofs.OverallLemmas.{did_session}
use Rattle.g_session.proofs.top.session_on.Goals as goal

pub answer_lines-talk-requires-clause-reels : goal.answer_lines-talk-requires-clause-reels
answer_lines-talk-requires-clause-reels g c = c.first_talk.ensures.serials ∙ ap (λ (d : Seen). serials_in d.system) (sym c.first_talk.ensures.day)

pub returns : goal.returns
returns g c =
    let old : Devices = both (g.D.Disc.state c.args.devices.0) (g.T.Tapes.rack c.args.devices.1) in
    rw c.session_status.ensures
    (did_session g.F.Fn c.args.rules.now.tariff.now g.U.Fn c.args.rules.now.weigh.now old _ (g.C.Console.transcript c.args.console.now) (g.C.Console.transcript c.end_session-talk.new.console) (g.C.Console.transcript c.close-failure.new.out)
    (g.L.Sink.written c.args.log.now) (g.L.Sink.written c.answer_lines-talk.new.log) c.answer_lines-talk.result.course c.end_session-talk.result.course c.end_session-talk.result.bad c.end_session-talk.result.day
    c.close-failure.result _ _ _ _ _ _ _ _ (g.met.C.Console.exposed c.end_session-talk.new.console) (g.met.C.Console.exposed c.close-failure.new.out)
    (λ s stand. c.end_session-talk.ensures.said s true old (g.C.Console.transcript c.args.console.now) (g.L.Sink.written c.args.log.now) (g.L.Sink.written c.answer_lines-talk.new.log)
    (c.answer_lines-talk.ensures.said s true old [] (g.C.Console.transcript c.args.console.now) (g.L.Sink.written c.args.log.now)
    (stands_start g.F.Fn c.args.rules.now.tariff.now g.U.Fn c.args.rules.now.weigh.now s true old (g.C.Console.transcript c.args.console.now) (g.L.Sink.written c.args.log.now) c.first_talk.result.bad c.first_talk.result.day c.first_talk.result.reader c.first_talk.result.number stand
    c.first_talk.ensures.bad c.first_talk.ensures.day c.first_talk.ensures.reader c.first_talk.ensures.number)))
    (λ s stand blank. c.end_session-talk.ensures.anew s old (g.C.Console.transcript c.args.console.now) (g.L.Sink.written c.args.log.now) (g.L.Sink.written c.answer_lines-talk.new.log)
    (c.answer_lines-talk.ensures.anew s old (g.C.Console.transcript c.args.console.now) (g.L.Sink.written c.args.log.now)
    (anew_start g.F.Fn c.args.rules.now.tariff.now g.U.Fn c.args.rules.now.weigh.now s old (g.C.Console.transcript c.args.console.now) (g.L.Sink.written c.args.log.now) c.first_talk.result.bad c.first_talk.result.day c.first_talk.result.reader c.first_talk.result.number stand blank
    c.first_talk.ensures.bad c.first_talk.ensures.day c.first_talk.ensures.reader c.first_talk.ensures.number)))
    (c.end_session-talk.ensures.keeps (first_seen old)
    (subst (λ (d : Seen). KeepsMany d c.answer_lines-talk.result.course c.answer_lines-talk.result.day) c.first_talk.ensures.day c.answer_lines-talk.ensures.keeps))
    c.answer_lines-talk.ensures.cause c.end_session-talk.ensures.cause
    (subst (λ (f : Option Failure). ClosesBy f (waiting_files c.end_session-talk.result.day.crew.jobs ++ closing None) c.close-failure.result (g.C.Sink.written c.end_session-talk.new.console) (g.C.Sink.written c.close-failure.new.out)
    (g.C.Sink.faults c.end_session-talk.new.console) (g.C.Sink.faults c.close-failure.new.out)) (c.failure_in.ensures ∙ ap (λ t. failure_of t.course) c.talk.view_is)
    (subst (λ (s : Seen). ClosesBy c.failure_in.result (waiting_files s.crew.jobs ++ closing None) c.close-failure.result (g.C.Sink.written c.end_session-talk.new.console) (g.C.Sink.written c.close-failure.new.out)
    (g.C.Sink.faults c.end_session-talk.new.console) (g.C.Sink.faults c.close-failure.new.out)) (ap (λ t. t.day) c.talk.view_is) c.close-failure.ensures))
    c.taken_down-disc.ensures)
