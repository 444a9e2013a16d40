use Rattle.std.proofs.Common.{List, ℕ, ◌++◌, Option, Some, codes, ◌∙◌, ap, subst}
use Rattle.g_lines.specs.Lines.{lines_of}
use Rattle.g_script.specs.Script.{IsOneItem}
use Rattle.g_script.specs.declared.operator.Timed.{Timed}
use Rattle.g_typing.proofs.item.is_job_line.Goals as goal

pub returns-in-Some : goal.returns-in-Some
returns-in-Some c =
    let text = c.as_slice.ensures ∙ c.in_ok-extend.ensures.ok ∙ ap (λ (t : List ℕ). t ++ codes "****\n") c.in_ok-text.ensures in
    (c.in-Some._next, subst (λ (t : List ℕ). IsOneItem (lines_of t) (Some c.in-Some._next)) text (subst (λ (o : Option Timed). IsOneItem (lines_of c.as_slice.result.now) o) c.in-Some.is c.in_ok-_next.ensures))

pub returns : goal.returns
returns c =
    let text = c.as_slice.ensures ∙ c.in_ok-extend.ensures.ok ∙ ap (λ (t : List ℕ). t ++ codes "****\n") c.in_ok-text.ensures in
    let none = rw c.in-None.is at c.in_ok-_next.ensures in rw text at none
