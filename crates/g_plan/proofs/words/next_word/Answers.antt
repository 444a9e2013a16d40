use Rattle.std.proofs.Common.{◌≡◌, ◌≤◌, ◌-◌, ◌∙◌, arith, drop, length, length-drop, sym}
use Rattle.std.proofs.lemmas.Bool.{eqb-false, eqb-true}
use Rattle.std.proofs.lemmas.List.{take_all}
use Rattle.g_plan.proofs.WordLemmas.{next-none, next-some, no_length, some_length}
use Rattle.g_plan.proofs.words.next_word.Goals as goal

pub returns-then-is_empty : goal.returns-then-is_empty
returns-then-is_empty c =
    next-none c.args.text.now c.without_front-text.result.now c.without_front-text.ensures
    (no_length c.without_front-text.result.now (eqb-true (length c.without_front-text.result.now) 0 (sym c.is_empty.ensures ∙ c.if-is_empty.true)))

pub returns : goal.returns
returns c =
    let text = c.without_front-text.result.now in
    let word = c.before-word.result.now in
    let behind = drop (length word) text in
    let few : length behind ≤ length text - length word = omega (arith, length-drop (length word) text) in
    let whole = take_all (length text - length word) behind few in
    next-some c.args.text.now text word _ c.without_front-text.ensures
    (some_length text (eqb-false (length text) 0 (sym c.is_empty.ensures ∙ c.if-is_empty.false))) c.before-word.ensures.value whole
