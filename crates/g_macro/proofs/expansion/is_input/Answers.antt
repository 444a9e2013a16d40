use Rattle.std.proofs.Common.{Bool, List, ap, not, sym, ℕ, ◌&&◌, ◌∙◌}
use Rattle.g_lang.specs.LineReader.{reading}
use Rattle.g_lang.specs.Meaning.{is_input_said}
use Rattle.g_macro.proofs.HoldingLemmas.{input_front, input_unfilled}
use Rattle.g_macro.specs.Expansion.{substituted}
use Rattle.g_macro.proofs.expansion.is_input.Goals as goal

-- a line without `%`
pub returns-then-not-contains : goal.returns-then-not-contains
returns-then-not-contains c =
    c.is_input_line.ensures ∙ sym (input_unfilled c.args.params.now c.args.line.now c.if-line-le-MOST.true (sym c.if-not-contains.ensures.value))

pub returns-then-not-front : goal.returns-then-not-front
returns-then-not-front c =
    let front = c.expand-front.result in
    let said = is_input_said (reading front.bytes.items) in
    c.is_input_line-then-not-front.ensures ∙ ap (λ (text : List ℕ). is_input_said (reading text)) c.as_slice.ensures.value
    ∙ ap (λ (b : Bool). not b && said) (sym c.if-not-front.true)
    ∙ sym (input_front (substituted c.args.params.now c.args.line.now) front c.expand-front.ensures)
