use Rattle.std.proofs.Common.{None, Option, ℕ, ◌<◌, ◌+◌, ◌∙◌, sym, ap, subst, true≢false}
use Rattle.g_day.specs.declared.progress.Failure.{Failure}
use Rattle.g_day.specs.Parts.{IsReady, Seen, seen}
use Rattle.g_day.specs.System.{SystemFacts, Up}
use Rattle.g_ticks.specs.Parts.{Anything, DidTicks, HasRoom, IsAtRest}
use Rattle.g_ticks.specs.Turning.{left_of}
use Rattle.g_ticks.proofs.LeftLemmas.{left_up, seen_up}
use Rattle.g_ticks.proofs.TickedLemmas.{one_here}
use Rattle.g_ticks.proofs.UntilLemmas.{room_one, room_then, ticks_end, ticks_fall, ticks_more, ticks_start}
use Rattle.g_ticks.proofs.ticks.tick_on.Goals as goal

pub ticks-init : goal.ticks-init
ticks-init g c =
    let up = c.args.up in
    let at = sym (seen_up up.store.running up.crew up.count c.requires.ready.0) in record {
      did = subst (λ (s : Seen). DidTicks g.F.Fn c.args.rules.now.tariff.now g.U.Fn c.args.rules.now.weigh.now Anything c.args.limit (seen (Up up.store.running) up.crew up.count) None s
          (g.K.Sink.written c.args.out.now) (g.K.Sink.written c.args.out.now) (g.K.Sink.faults c.args.out.now) (g.K.Sink.faults c.args.out.now)) at
          (ticks_start g.F.Fn c.args.rules.now.tariff.now g.U.Fn c.args.rules.now.weigh.now c.args.limit _ _ _ c.requires.ready c.requires.open);
      room = λ none. subst (λ (s : Seen). HasRoom c.args.limit s) at c.requires.room;
      weighed = λ none running. c.weigh.ensures;
      accounts = λ none running quiet. absurd (true≢false (sym c.requires.asked ∙ quiet));
    }

pub goes_on-requires : goal.goes_on-requires
goes_on-requires g c = record { ready = λ none. (c.ticks.invariant.did.keeps.ready none).0 }

pub tick-failure-requires-clause-ready : goal.tick-failure-requires-clause-ready
tick-failure-requires-clause-ready g c =
    let yes = c.goes_on.ensures.yes c.ticks-test.true in
    subst (λ (f : SystemFacts). IsReady f c.ticks.up.crew) (left_up c.ticks.up.store.running yes.2) (c.ticks.invariant.did.keeps.ready yes.0).0

pub tick-failure-requires-clause-open : goal.tick-failure-requires-clause-open
tick-failure-requires-clause-open g c = (c.ticks.invariant.did.keeps.ready (c.goes_on.ensures.yes c.ticks-test.true).0).1

pub counted-requires : goal.counted-requires
counted-requires g c =
    let yes = c.goes_on.ensures.yes c.ticks-test.true in
    let up = c.ticks.up in
    let room = subst (λ (s : Seen). HasRoom c.args.limit s) (seen_up up.store.running up.crew up.count yes.2) (c.ticks.invariant.room yes.0) in
    record { room = subst (λ (n : ℕ). n < 18446744073709551615) (sym c.tick-failure.ensures.count) (room_one c.args.limit (seen (Up up.store.running) up.crew up.count) room yes.1) }

pub tick-failure-requires-clause-weighed : goal.tick-failure-requires-clause-weighed
tick-failure-requires-clause-weighed g c = let yes = c.goes_on.ensures.yes c.ticks-test.true in c.ticks.invariant.weighed yes.0 yes.2

pub tick-failure-requires-clause-accounts : goal.tick-failure-requires-clause-accounts
tick-failure-requires-clause-accounts g c = let yes = c.goes_on.ensures.yes c.ticks-test.true in c.ticks.invariant.accounts yes.0 yes.2

pub ticks-preserved : goal.ticks-preserved
ticks-preserved g c =
    let yes = c.goes_on.ensures.yes c.ticks-test.true in
    let up = c.ticks.up in
    let new = c.tick-failure.new.up in
    let so_far = rw yes.0 at c.ticks.invariant.did in
    let one = one_here g.F.Fn c.args.rules.now.tariff.now g.U.Fn c.args.rules.now.weigh.now c.args.limit up.store.running up.crew up.count yes.2 (c.ticks.invariant.did.keeps.ready yes.0).0 yes.1 yes.3 (left_of new.store.running) new.crew
    (g.K.Sink.written c.ticks.out) (g.K.Sink.written c.tick-failure.new.out) (g.K.Sink.faults c.ticks.out) (g.K.Sink.faults c.tick-failure.new.out)
    c.tick-failure.result c.tick-failure.ensures.did c.counted.result (λ none. c.counted.ensures.done none ∙ ap (λ (n : ℕ). n + 1) c.tick-failure.ensures.count) in record {
      did = ticks_more g.F.Fn c.args.rules.now.tariff.now g.U.Fn c.args.rules.now.weigh.now c.args.limit _ _ _ _ _ _ _ _ _ _ so_far one;
      room = λ none. room_then c.args.limit _ _ (c.ticks.invariant.room yes.0) (one.counts none) (one.falls none);
      weighed = c.tick-failure.ensures.weighed;
      accounts = c.tick-failure.ensures.accounts;
    }

pub ticks-smaller : goal.ticks-smaller
ticks-smaller g c =
    let yes = c.goes_on.ensures.yes c.ticks-test.true in
    let up = c.ticks.up in
    let new = c.tick-failure.new.up in
    let one = one_here g.F.Fn c.args.rules.now.tariff.now g.U.Fn c.args.rules.now.weigh.now c.args.limit up.store.running up.crew up.count yes.2 (c.ticks.invariant.did.keeps.ready yes.0).0 yes.1 yes.3 (left_of new.store.running) new.crew
    (g.K.Sink.written c.ticks.out) (g.K.Sink.written c.tick-failure.new.out) (g.K.Sink.faults c.ticks.out) (g.K.Sink.faults c.tick-failure.new.out)
    c.tick-failure.result c.tick-failure.ensures.did c.counted.result (λ none. c.counted.ensures.done none ∙ ap (λ (n : ℕ). n + 1) c.tick-failure.ensures.count) in
    ticks_fall c.ticks.failure c.tick-failure.result _ _ yes.0 one.falls

pub returns : goal.returns
returns g c =
    let up = c.ticks.up in
    let did = ticks_end g.F.Fn c.args.rules.now.tariff.now g.U.Fn c.args.rules.now.weigh.now c.args.limit _ c.ticks.failure (left_of up.store.running) up.crew up.count _ _ _ _ c.ticks.invariant.did (c.goes_on.ensures.no c.ticks-test.false) in
    subst (λ (f : Option Failure). DidTicks g.F.Fn c.args.rules.now.tariff.now g.U.Fn c.args.rules.now.weigh.now IsAtRest c.args.limit (seen (Up c.args.up.store.running) c.args.up.crew c.args.up.count) f c.ended.result.day
    (g.K.Sink.written c.args.out.now) (g.K.Sink.written c.ticks.out) (g.K.Sink.faults c.args.out.now) (g.K.Sink.faults c.ticks.out)) (sym c.ended.ensures.failure)
    (subst (λ (s : Seen). DidTicks g.F.Fn c.args.rules.now.tariff.now g.U.Fn c.args.rules.now.weigh.now IsAtRest c.args.limit (seen (Up c.args.up.store.running) c.args.up.crew c.args.up.count) c.ticks.failure s
    (g.K.Sink.written c.args.out.now) (g.K.Sink.written c.ticks.out) (g.K.Sink.faults c.args.out.now) (g.K.Sink.faults c.ticks.out)) (sym c.ended.ensures.day) did)
