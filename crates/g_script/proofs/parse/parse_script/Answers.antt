use Rattle.std.proofs.Common.{List, Some, [], ap, arith, length, subst, sym, ℕ, ◌+◌}
use Rattle.g_lines.specs.Lines.{lines_of}
use Rattle.g_script.specs.Reading.{IsTaken}
use Rattle.g_script.specs.Script.{Say}
use Rattle.g_script.specs.declared.operator.Timed.{Timed}
use Rattle.g_script.proofs.ReadLemmas.{IsFront, bad_few, front_few, front_next, parsed_bad, parsed_whole, taken_few}
use Rattle.g_script.proofs.parse.parse_script.Goals as goal

pub read_item-requires : goal.read_item-requires
read_item-requires c =
    let few = front_few c.args.bytes.now c.loop-line.said c.loop-line.lines c.loop-line.before c.loop-line.invariant in
    let long = ap length c.in-Some.ensures.line in
    omega (arith, few, long, c.type_inv.bytes)

pub overflow_add-before : goal.overflow_add-before
overflow_add-before c =
    let few = front_few c.args.bytes.now c.loop-line.said c.loop-line.lines c.loop-line.before c.loop-line.invariant in
    let long = ap length c.in-Some.ensures.line in
    let taken = taken_few _ _ _ _ (rw c.in-Taken.is at c.in_ok-next.ensures) in
    omega (arith, few, long, taken, c.type_inv.bytes)

pub loop-line-preserved : goal.loop-line-preserved
loop-line-preserved c =
    let taken = subst (λ (ls : List (List ℕ)). IsTaken ls c.read_item.new.lines c.in-Taken.next c.in-Taken.count) (sym c.in-Some.ensures.line) (rw c.in-Taken.is at c.in_ok-next.ensures) in
    let next = front_next _ _ _ c.loop-line.said c.in-Taken.next c.loop-line.before c.in-Taken.count c.loop-line.invariant taken in
    subst (λ (said : List Timed). IsFront (lines_of c.args.bytes.now) said c.read_item.new.lines (c.loop-line.before + c.in-Taken.count)) (sym c.in_ok-push-in-Taken.ensures.ok) next

pub overflow_add-bad : goal.overflow_add-bad
overflow_add-bad c =
    let few = front_few c.args.bytes.now c.loop-line.said c.loop-line.lines c.loop-line.before c.loop-line.invariant in
    let long = ap length c.in-Some.ensures.line in
    let bad = bad_few _ _ (rw c.in-BadAt.is at c.in_ok-next.ensures) in
    omega (arith, few, long, bad, c.type_inv.bytes)

pub returns-in-BadAt : goal.returns-in-BadAt
returns-in-BadAt c =
    parsed_bad (lines_of c.args.bytes.now) c.loop-line.lines c.loop-line.said c.loop-line.before c.in-BadAt.place c.loop-line.invariant
    (subst (λ (ls : List (List ℕ)). Say 1 ls [] (Some c.in-BadAt.place)) (sym c.in-Some.ensures.line) (rw c.in-BadAt.is at c.in_ok-next.ensures))

pub returns : goal.returns
returns c =
    parsed_whole (lines_of c.args.bytes.now) c.loop-line.lines c.loop-line.said c.loop-line.before c.loop-line.invariant c.in_default.ensures.line
