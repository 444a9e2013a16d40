use Rattle.std.proofs.Common.{arith, length-take-le, sym}
use Rattle.g_script.proofs.DocumentLemmas.{is_end, is_no_end, up_to-inside, up_to-more, up_to-room, up_to-whole}
use Rattle.g_script.proofs.read.read_document.Goals as goal

pub slice_bounds-of_text-end : goal.slice_bounds-of_text-end
slice_bounds-of_text-end c =
    sym (length-take-le c.loop-line.bytes c.rest-text.result.now
    (up_to-inside c.rest-text.result.now c.args.lines.now c.loop-line.lines c.next.new.self c.in-Some.line.now c.loop-line.count c.loop-line.bytes c.loop-line.invariant c.rest-text.ensures c.in-Some.ensures.line))

pub returns-then-eq : goal.returns-then-eq
returns-then-eq c =
    up_to-whole c.rest-text.result.now c.args.lines.now c.loop-line.lines c.next.new.self c.in-Some.line.now c.loop-line.count c.loop-line.bytes c.loop-line.invariant c.rest-text.ensures c.in-Some.ensures.line
    c.in_ok-document.document (is_end c.in-Some.line.now c.eq.result c.eq.ensures c.if-eq.true) c.in_ok-document.ensures

pub overflow_add-bytes-in-Some : goal.overflow_add-bytes-in-Some
overflow_add-bytes-in-Some c =
    omega (
      arith,
      c.type_inv.text,
      up_to-room c.rest-text.result.now c.args.lines.now c.loop-line.lines c.next.new.self c.in-Some.line.now c.loop-line.count c.loop-line.bytes c.loop-line.invariant c.rest-text.ensures c.in-Some.ensures.line,
    )

pub loop-line-preserved : goal.loop-line-preserved
loop-line-preserved c =
    up_to-more c.rest-text.result.now c.args.lines.now c.loop-line.lines c.next.new.self c.in-Some.line.now c.loop-line.count c.loop-line.bytes c.loop-line.invariant c.rest-text.ensures c.in-Some.ensures.line
    (c.is_printed.ensures.0 c.if-not-is_printed.false) (is_no_end c.in-Some.line.now c.eq.result c.eq.ensures c.if-eq.false)
