use Rattle.std.proofs.Common.{◌≤◌, ◌-◌, ◌∙◌, ap, arith, drop, length, length-drop, not, sym}
use Rattle.std.proofs.lemmas.Bool.{false≢true}
use Rattle.std.proofs.lemmas.List.{take_all}
use Rattle.g_plan.proofs.LineLemmas.{form-read, form-unlabelled, form-unprinted, some_by}
use Rattle.g_plan.proofs.read.read_line.Goals as goal
use Rattle.g_plan.proofs.read.read_line.Goals.{else-not-is_empty-via-then-not-is_empty+else-not-is_label, else-not-is_empty-via-else-not-is_empty}

pub returns-then-not-is_printed : goal.returns-then-not-is_printed
returns-then-not-is_printed c = form-unprinted c.args.line.now (sym c.is_printed.ensures ∙ c.if-not-is_printed.true)

pub returns-then-not-is_label : goal.returns-then-not-is_label
returns-then-not-is_label c =
    form-unlabelled c.args.line.now c.before-front.result.now c.before-front.ensures.value (sym c.is_printed.ensures ∙ c.if-not-is_printed.false)
    (sym (some_by c.before-front.result.now c.is_empty.result c.is_empty.ensures) ∙ ap not c.if-not-is_empty.true) (sym c.is_label.ensures ∙ c.if-not-is_label.true)

pub returns : goal.returns
returns c =
    let line = c.args.line.now in
    let front = c.before-front.result.now in
    let few : length (drop (length front) line) ≤ length line - length front = omega (arith, length-drop (length front) line) in
    c.read_words.ensures
    ∙ form-read line front _ (not c.is_empty-2.result) c.before-front.ensures.value (sym c.is_printed.ensures ∙ c.if-not-is_printed.false)
    (some_by front c.is_empty-2.result c.is_empty-2.ensures)
    (elim c.else-not-is_empty.branch [
      | else-not-is_empty-via-then-not-is_empty+else-not-is_label w ↦ λ _. sym w.is_label.ensures ∙ w.if-not-is_label.false
      | else-not-is_empty-via-else-not-is_empty w ↦
          λ named. absurd (false≢true (sym (ap not (c.is_empty-2.ensures ∙ (sym c.is_empty.ensures ∙ w.if-not-is_empty.false))) ∙ named))
    ])
    (take_all (length line - length front) (drop (length front) line) few)
