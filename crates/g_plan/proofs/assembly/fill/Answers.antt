use Rattle.std.proofs.Common.{◌≡◌, ◌≤◌, Bool, List, Some, ap, arith, false, length, subst, true}
use Rattle.std.specs.List.{slice_get}
use Rattle.g_plan.specs.Passes.{IsLinePut}
use Rattle.g_plan.specs.declared.source.Line.{Line}
use Rattle.g_plan.proofs.FillLemmas.{filled_next, filled_none}
use Rattle.g_plan.proofs.FinishLemmas.{filled-err, filled-ok, line-here}
use Rattle.g_plan.proofs.assembly.fill.Goals as goal

pub loop-k-init : goal.loop-k-init
loop-k-init c = filled_none c.args.source.now c.size_of_program-size.result c.in_ok-image.image c.in_ok-image.ensures

pub loop-k-preserved : goal.loop-k-preserved
loop-k-preserved c =
    let all = c.args.source.now in
    let line = c.index-lines-k.result in
    let here : slice_get all c.loop-k.k ≡ Some line =
    subst (λ (ls : List Line). slice_get ls c.loop-k.k ≡ Some line) c.lines-lines.ensures
    (line-here c.lines-lines.result.now c.loop-k.k line c.loop-k-test.true c.index-lines-k.is) in
    filled_next all c.size_of_program-size.result c.loop-k.k c.loop-k.image c.place_line.new.image line c.loop-k.invariant here
    (subst (λ (b : Bool). IsLinePut all c.size_of_program-size.result line c.loop-k.image c.place_line.new.image b) c.if-not-place_line.false c.place_line.ensures)

pub place_line-requires : goal.place_line-requires
place_line-requires c =
    let line = c.index-lines-k.result in
    c.requires c.loop-k.k line
    (subst (λ (ls : List Line). slice_get ls c.loop-k.k ≡ Some line) c.lines-lines.ensures
    (line-here c.lines-lines.result.now c.loop-k.k line c.loop-k-test.true c.index-lines-k.is))

pub returns-then-not-place_line : goal.returns-then-not-place_line
returns-then-not-place_line c =
    let all = c.args.source.now in
    let line = c.index-lines-k.result in
    let here : slice_get all c.loop-k.k ≡ Some line =
    subst (λ (ls : List Line). slice_get ls c.loop-k.k ≡ Some line) c.lines-lines.ensures
    (line-here c.lines-lines.result.now c.loop-k.k line c.loop-k-test.true c.index-lines-k.is) in
    filled-err all c.size_of_program-size.result c.loop-k.k c.loop-k.image c.place_line.new.image line c.size_of_program-size.ensures c.loop-k.invariant here
    (subst (λ (b : Bool). IsLinePut all c.size_of_program-size.result line c.loop-k.image c.place_line.new.image b) c.if-not-place_line.true c.place_line.ensures)

pub returns : goal.returns
returns c =
    let done = c.loop-k-test.false in
    let same = ap length c.lines-lines.ensures in
    let past : length c.args.source.now ≤ c.loop-k.k = omega (arith, done, same) in
    filled-ok c.args.source.now c.size_of_program-size.result c.loop-k.k c.loop-k.image c.size_of_program-size.ensures c.loop-k.invariant past
