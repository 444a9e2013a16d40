use Rattle.std.proofs.Common.{◌<◌, ◌^◌, refl, sym, ap, ◌∙◌, arith}
use Rattle.g_mill.specs.Machine.{Machine, preceding}
use Rattle.g_peri.proofs.OrderLaws.{back, left_by, asked_leaves, illegal_leaves, refused_stays}
use Rattle.g_peri.proofs.units.Units.one_order.Goals as goal

pub transfer-requires-clause-passed : goal.transfer-requires-clause-passed
transfer-requires-clause-passed c =
    let s = c.args.program.now in
    let p = c.step.new.self in
    let small : s.next < 2 ^ 15 = omega arith in
    let asked = asked_leaves s p c.step.result c.in-Peri.area c.in-Peri.is (left_by s p c.step.result c.step.ensures.machine c.step.ensures.event) in
    ap (λ (q : Machine). preceding q.next) asked.0 ∙ back s.next small ∙ sym c.next-at.ensures.value

pub returns-in-Peri-clause-illegal : goal.returns-in-Peri-clause-illegal
returns-in-Peri-clause-illegal c =
    let s = c.args.program.now in
    let p = c.step.new.self in
    let small : s.next < 2 ^ 15 = omega arith in
    let asked = asked_leaves s p c.step.result c.in-Peri.area c.in-Peri.is (left_by s p c.step.result c.step.ensures.machine c.step.ensures.event) in
    refused_stays c.args.self.now _ s p _ c.in-Peri.area c.transfer.result asked.0 small c.transfer.ensures

pub returns-in-Illegal-clause-illegal : goal.returns-in-Illegal-clause-illegal
returns-in-Illegal-clause-illegal c =
    let s = c.args.program.now in
    let p = c.step.new.self in
    let left = illegal_leaves s p c.step.result c.in-Illegal.word c.in-Illegal.at c.in-Illegal.is (left_by s p c.step.result c.step.ensures.machine c.step.ensures.event) in
    (left.1, refl, left.0)
