use Rattle.std.proofs.Common.{List, ℕ, Option, Some, refl, ◌∙◌, subst}
use Rattle.g_lines.specs.Lines.{lines_of}
use Rattle.g_script.specs.Script.{IsOneItem}
use Rattle.g_script.specs.declared.operator.Timed.{Timed}
use Rattle.g_typing.proofs.AddLemmas.{document_closed, document_none}
use Rattle.g_typing.proofs.item.ItemReader.close.Goals as goal

pub returns-in-Some : goal.returns-in-Some
returns-in-Some c count lines d =
    let text = c.as_slice.ensures ∙ c.in_ok-extend.ensures.ok in
    document_closed count lines c.args.self.now.timed c.args.self.now.text d _ c.in-Some.next c.in_ok-extend.ensures.ok refl
    (subst (λ (t : List ℕ). IsOneItem (lines_of t) (Some c.in-Some.next)) text (subst (λ (o : Option Timed). IsOneItem (lines_of c.as_slice.result.now) o) c.in-Some.is c.in_ok-next.ensures))

pub returns-in-None : goal.returns-in-None
returns-in-None c count lines d =
    let text = c.as_slice.ensures ∙ c.in_ok-extend.ensures.ok in
    let none = rw c.in-None.is at c.in_ok-next.ensures in
    document_none count lines c.args.self.now.timed c.args.self.now.text d (rw text at none)
