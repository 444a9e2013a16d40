use Rattle.std.proofs.Common.{◌≡◌, ◌∙◌, Bool, true, false, List, ap, arith, codes, sym, ℕ}
use Rattle.g_name.specs.Order.{same_text}
use Rattle.g_macro.specs.Levels.{is_closing}
use Rattle.g_macro.proofs.SpanLemmas.{span-fits, span-next, span-stop}
use Rattle.g_macro.proofs.level.span_of.Goals as goal

-- the result of testing a line
closing : (line to : List ℕ) (is same : Bool) → to ≡ codes "////" → is ≡ same_text line to → is ≡ same → is_closing line ≡ same
closing line to is same text told tells = ap (same_text line) (sym text) ∙ sym told ∙ tells

pub overflow_add-count : goal.overflow_add-count
overflow_add-count c =
    let fits = span-fits c.args.left.now c.loop-line.lines c.next.new.self c.in-Some.line.now c.loop-line.count c.loop-line.document c.requires c.loop-line.invariant c.in-Some.ensures.line in
    omega (arith, fits.1)

pub overflow_add-result : goal.overflow_add-result
overflow_add-result c =
    let fits = span-fits c.args.left.now c.loop-line.lines c.next.new.self c.in-Some.line.now c.loop-line.count c.loop-line.document c.requires c.loop-line.invariant c.in-Some.ensures.line in
    omega (arith, fits.0)

pub overflow_add-result-then-eq : goal.overflow_add-result-then-eq
overflow_add-result-then-eq c =
    let fits = span-fits c.args.left.now c.loop-line.lines c.next.new.self c.in-Some.line.now c.loop-line.count c.loop-line.document c.requires c.loop-line.invariant c.in-Some.ensures.line in
    omega (arith, fits.0)

pub returns-then-eq : goal.returns-then-eq
returns-then-eq c =
    span-stop _ c.loop-line.lines c.next.new.self c.in-Some.line.now c.loop-line.count c.loop-line.document c.loop-line.invariant c.in-Some.ensures.line
    (closing c.in-Some.line.now c.as_slice.result.now c.eq.result true c.as_slice.ensures c.eq.ensures c.if-eq.true)

pub overflow_add-document-in-Some : goal.overflow_add-document-in-Some
overflow_add-document-in-Some c =
    let fits = span-fits c.args.left.now c.loop-line.lines c.next.new.self c.in-Some.line.now c.loop-line.count c.loop-line.document c.requires c.loop-line.invariant c.in-Some.ensures.line in
    omega (arith, fits.0)

pub loop-line-preserved : goal.loop-line-preserved
loop-line-preserved c =
    span-next _ c.loop-line.lines c.next.new.self c.in-Some.line.now c.loop-line.count c.loop-line.document c.loop-line.invariant c.in-Some.ensures.line
    (closing c.in-Some.line.now c.as_slice.result.now c.eq.result false c.as_slice.ensures c.eq.ensures c.if-eq.false)
