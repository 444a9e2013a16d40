use Rattle.std.proofs.Common.{List, ℕ, ◌∙◌, IfOk, subst}
use Rattle.g_lines.specs.Lines.{lines_of}
use Rattle.g_script.specs.Script.{IsParsed}
use Rattle.g_run.proofs.demo.demo_script.Goals as goal

pub returns-clause-parsed : goal.returns-clause-parsed
returns-clause-parsed c =
    subst (λ (t : List ℕ). IfOk c.parse_script.result (λ script. IsParsed (lines_of t) script.lines script.bad)) (c.as_slice.ensures ∙ c.in_ok-text.ensures) c.parse_script.ensures
