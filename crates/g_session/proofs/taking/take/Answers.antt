use Rattle.std.proofs.Common.{◌≡◌, Bool, true, false, None, sym, subst}
use Rattle.g_session.specs.Taking.{DidTake}
use Rattle.g_session.proofs.TakeLemmas.{take_held, take_rested, take_short}
use Rattle.g_session.proofs.taking.take.Goals as goal

pub returns-then-timed : goal.returns-then-timed
returns-then-timed g c =
    let one = rw c.in-None.is at c.next_line-day.ensures in
    let timed : c.args.timed ≡ true = c.if-timed.true in
    subst (λ (b : Bool). DidTake g.F.Fn c.args.rules.now.tariff.now g.U.Fn c.args.rules.now.weigh.now b c.args.next c.args.day None c.next_line-day.result.day
    (g.K.Sink.written c.args.out.now) (g.K.Sink.written c.next_line-day.new.out) (g.K.Sink.faults c.args.out.now) (g.K.Sink.faults c.next_line-day.new.out)) (sym timed)
    (take_held g.F.Fn c.args.rules.now.tariff.now g.U.Fn c.args.rules.now.weigh.now c.args.next c.args.day None c.next_line-day.result.day _ _ _ _ one)

pub returns-in-Some : goal.returns-in-Some
returns-in-Some g c =
    let one = rw c.in-Some.is at c.next_line-day.ensures in
    take_short g.F.Fn c.args.rules.now.tariff.now g.U.Fn c.args.rules.now.weigh.now c.args.timed c.args.next c.args.day c.in-Some.failure c.next_line-day.result.day _ _ _ _ one

pub returns-else-timed : goal.returns-else-timed
returns-else-timed g c =
    let one = rw c.in-None.is at c.next_line-day.ensures in
    let untimed : c.args.timed ≡ false = c.if-timed.false in
    subst (λ (b : Bool). DidTake g.F.Fn c.args.rules.now.tariff.now g.U.Fn c.args.rules.now.weigh.now b c.args.next c.args.day c.rest.result.failure c.rest.result.day
    (g.K.Sink.written c.args.out.now) (g.K.Sink.written c.rest.new.out) (g.K.Sink.faults c.args.out.now) (g.K.Sink.faults c.rest.new.out)) (sym untimed)
    (take_rested g.F.Fn c.args.rules.now.tariff.now g.U.Fn c.args.rules.now.weigh.now c.args.next c.args.day c.next_line-day.result.day c.rest.result.failure c.rest.result.day _ _ _ _ _ _ one c.rest.ensures)
