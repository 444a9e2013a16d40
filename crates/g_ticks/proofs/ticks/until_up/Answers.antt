use Rattle.std.proofs.Common.{None, Option, sym, subst}
use Rattle.g_day.specs.declared.progress.Failure.{Failure}
use Rattle.g_day.specs.Parts.{IsReady, Seen, seen}
use Rattle.g_day.specs.System.{SystemFacts, Up}
use Rattle.g_ticks.specs.Parts.{Anything, DidTicks, IsAtRest}
use Rattle.g_ticks.specs.Turning.{left_of}
use Rattle.g_ticks.proofs.LeftLemmas.{left_up, seen_up}
use Rattle.g_ticks.proofs.UntilLemmas.{ticks_end, ticks_start}
use Rattle.g_ticks.proofs.ticks.until_up.Goals as goal

pub goes_on-requires : goal.goes_on-requires
goes_on-requires g c = record { ready = λ none. subst (λ (f : SystemFacts). IsReady f c.args.up.crew) (sym (left_up c.args.up.store.running c.requires.ready.0)) c.requires.ready }

pub returns-else-goes_on : goal.returns-else-goes_on
returns-else-goes_on g c =
    let up = c.args.up in
    let at = sym (seen_up up.store.running up.crew up.count c.requires.ready.0) in
    let begun = subst (λ (s : Seen). DidTicks g.F.Fn c.args.rules.now.tariff.now g.U.Fn c.args.rules.now.weigh.now Anything c.args.limit (seen (Up up.store.running) up.crew up.count) None s
    (g.K.Sink.written c.args.out.now) (g.K.Sink.written c.args.out.now) (g.K.Sink.faults c.args.out.now) (g.K.Sink.faults c.args.out.now)) at
    (ticks_start g.F.Fn c.args.rules.now.tariff.now g.U.Fn c.args.rules.now.weigh.now c.args.limit _ _ _ c.requires.ready c.requires.open) in
    let did = ticks_end g.F.Fn c.args.rules.now.tariff.now g.U.Fn c.args.rules.now.weigh.now c.args.limit _ None (left_of up.store.running) up.crew up.count _ _ _ _ begun (c.goes_on.ensures.no c.if-goes_on.false) in
    subst (λ (f : Option Failure). DidTicks g.F.Fn c.args.rules.now.tariff.now g.U.Fn c.args.rules.now.weigh.now IsAtRest c.args.limit (seen (Up up.store.running) up.crew up.count) f c.ended.result.day
    (g.K.Sink.written c.args.out.now) (g.K.Sink.written c.args.out.now) (g.K.Sink.faults c.args.out.now) (g.K.Sink.faults c.args.out.now)) (sym c.ended.ensures.failure)
    (subst (λ (s : Seen). DidTicks g.F.Fn c.args.rules.now.tariff.now g.U.Fn c.args.rules.now.weigh.now IsAtRest c.args.limit (seen (Up up.store.running) up.crew up.count) None s
    (g.K.Sink.written c.args.out.now) (g.K.Sink.written c.args.out.now) (g.K.Sink.faults c.args.out.now) (g.K.Sink.faults c.args.out.now)) (sym c.ended.ensures.day) did)
