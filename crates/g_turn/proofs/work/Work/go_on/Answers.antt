use Rattle.std.proofs.Common.{◌∙◌, ◌<◌, ◌≤◌, ap, sym, arith}
use Rattle.g_turn.proofs.OrderLemmas.{goes_nowhere, rest_ends, rest_goes, rest_stops}
use Rattle.g_turn.proofs.work.Work.go_on.Goals as goal
use Rattle.g_turn.proofs.work.Work.go_on.Goals.{then-not-goes-via-then-not-goes, then-not-goes-via-else-not-goes+then-is_over}

pub returns-then-self-ge-MOST-clause-ok : goal.returns-then-self-ge-MOST-clause-ok
returns-then-self-ge-MOST-clause-ok c =
    let many : 64 ≤ c.run_plain.new.self.orders = omega (arith, ap (λ w. w.orders) c.self-in-loop-self.view_is) in
    sym (goes_nowhere c.args.room c.run_plain.new.self many) ∙ c.run_plain.ensures.same c.args.room ∙ c.loop-self.invariant.same

pub returns-then-not-goes-clause-ok : goal.returns-then-not-goes-clause-ok
returns-then-not-goes-clause-ok c =
    let few : c.run_plain.new.self.orders < 64 = omega (arith, ap (λ w. w.orders) c.self-in-loop-self.view_is) in
    elim c.then-not-goes.branch [
      | then-not-goes-via-then-not-goes w ↦ rest_ends c.args.room c.run_plain.new.self c.one_order.new.self c.in_ok-goes.goes few c.in_ok-goes.ensures.ok w.if-not-goes.true ∙ c.run_plain.ensures.same c.args.room ∙ c.loop-self.invariant.same
      | then-not-goes-via-else-not-goes+then-is_over w ↦ rest_stops c.args.room c.run_plain.new.self c.one_order.new.self c.in_ok-goes.goes few c.in_ok-goes.ensures.ok w.if-not-goes.false (sym w.is_over.ensures ∙ w.if-is_over.true) ∙ c.run_plain.ensures.same c.args.room ∙ c.loop-self.invariant.same
    ]

pub loop-self-preserved : goal.loop-self-preserved
loop-self-preserved c =
    let few : c.run_plain.new.self.orders < 64 = omega (arith, ap (λ w. w.orders) c.self-in-loop-self.view_is) in
    record {
      same = rest_goes c.args.room c.run_plain.new.self c.one_order.new.self c.in_ok-goes.goes few c.in_ok-goes.ensures.ok c.if-not-goes.false (sym c.is_over.ensures ∙ c.if-is_over.false) ∙ c.run_plain.ensures.same c.args.room ∙ c.loop-self.invariant.same;
      blocks = c.in_ok-goes.ensures.blocks ∙ c.run_plain.ensures.blocks ∙ c.loop-self.invariant.blocks;
    }

pub returns-clause-ok : goal.returns-clause-ok
returns-clause-ok c =
    let many : 64 ≤ c.loop-self.self.orders = omega (arith, ap (λ w. w.orders) c.self.view_is) in
    sym (goes_nowhere c.args.room c.loop-self.self many) ∙ c.loop-self.invariant.same
