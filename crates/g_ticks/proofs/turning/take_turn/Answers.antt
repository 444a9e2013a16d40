use Rattle.std.proofs.Common.{Option, subst}
use Rattle.g_day.specs.declared.progress.Failure.{Failure}
use Rattle.g_ticks.specs.Turning.{Takes, left_of}
use Rattle.g_ticks.proofs.LeftLemmas.{seen_up}
use Rattle.g_ticks.proofs.RanLemmas.{mounted_some, some_state}
use Rattle.g_ticks.proofs.SameLemmas.{same_turn}
use Rattle.g_ticks.proofs.TakenLemmas.{nobody_turns, somebody_turns}
use Rattle.g_ticks.proofs.WeighedLemmas.{others_behind}
use Rattle.g_ticks.proofs.turning.take_turn.Goals as goal

pub returns-in-None-clause-did : goal.returns-in-None-clause-did
returns-in-None-clause-did g c =
    let up = c.args.up.now in
    same_turn g.F.Fn c.args.rules.now.tariff.now g.U.Fn c.args.rules.now.weigh.now (g.K.Sink.written c.args.out.now) (g.K.Sink.written c.args.out.now) (seen_up up.store.running up.crew up.count c.requires.ready.0)
    (nobody_turns g.F.Fn c.args.rules.now.tariff.now g.U.Fn c.args.rules.now.weigh.now up.store.running up.crew up.count c.requires.ready c.requires.open c.rises.ensures c.in-None.ensures _ _)

pub returns-in-Some-clause-did : goal.returns-in-Some-clause-did
returns-in-Some-clause-did g c =
    let up = c.args.up.now in
    somebody_turns g.F.Fn c.args.rules.now.tariff.now g.U.Fn c.args.rules.now.weigh.now up.store.running up.crew up.count c.requires.ready c.requires.open c.rises.ensures
    c.in-Some.number c.in-Some.ensures c.turn_of-failure.result (left_of c.turn_of-failure.new.up.store.running) c.turn_of-failure.new.up.crew _ _ _ _ c.turn_of-failure.ensures.turn

pub weigh_behind-requires-clause-others : goal.weigh_behind-requires-clause-others
weigh_behind-requires-clause-others g c = λ none long.
    let up = c.args.up.now in
    let new = c.turn_of-failure.new.up in
    others_behind g.F.Fn c.args.rules.now.tariff.now g.U.Fn c.args.rules.now.weigh.now up.store.running up.crew up.count c.in-Some.number (left_of new.store.running) new.crew
    (g.K.Sink.written c.args.out.now) (g.K.Sink.written c.turn_of-failure.new.out) (g.K.Sink.faults c.args.out.now) (g.K.Sink.faults c.turn_of-failure.new.out) c.args.weights.now
    (subst (λ (f : Option Failure). Takes g.F.Fn c.args.rules.now.tariff.now up.store.running up.crew up.count c.in-Some.number f (left_of new.store.running) new.crew
    (g.K.Sink.written c.args.out.now) (g.K.Sink.written c.turn_of-failure.new.out) (g.K.Sink.faults c.args.out.now) (g.K.Sink.faults c.turn_of-failure.new.out)) none c.turn_of-failure.ensures.turn)
    c.requires.weighed long

pub turn_of-failure-requires-clause-there : goal.turn_of-failure-requires-clause-there
turn_of-failure-requires-clause-there g c =
    let (place, job, chosen, at, is, found) = c.in-Some.ensures (some_state c.args.up.now.store.running) (mounted_some c.args.up.now.store.running) in (job, found)
