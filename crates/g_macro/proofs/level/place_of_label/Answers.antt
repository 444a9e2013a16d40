use Rattle.std.proofs.Common.{◌∙◌, arith, sym}
use Rattle.g_lines.specs.Lines.{lines_of}
use Rattle.g_macro.proofs.LabelLemmas.{label_so_far-fits, label_so_far-next}
use Rattle.g_macro.proofs.level.place_of_label.Goals as goal

pub overflow_add-count : goal.overflow_add-count
overflow_add-count c =
    let fits = label_so_far-fits c.args.label.now c.args.text.now c.loop-line.lines c.next.new.self c.in-Some.line.now c.loop-line.count c.loop-line.bytes c.requires c.loop-line.invariant c.in-Some.ensures.line in
    omega (arith, fits.1)

pub overflow_add-bytes-in-Some : goal.overflow_add-bytes-in-Some
overflow_add-bytes-in-Some c =
    let fits = label_so_far-fits c.args.label.now c.args.text.now c.loop-line.lines c.next.new.self c.in-Some.line.now c.loop-line.count c.loop-line.bytes c.requires c.loop-line.invariant c.in-Some.ensures.line in
    omega (arith, fits.0)

pub loop-line-preserved : goal.loop-line-preserved
loop-line-preserved c =
    label_so_far-next c.args.label.now (lines_of c.args.text.now) c.loop-line.lines c.next.new.self c.in-Some.line.now c.loop-line.count c.loop-line.bytes c.loop-line.invariant c.in-Some.ensures.line
    (sym c.has_label.ensures ∙ c.if-has_label.false)
