use Rattle.std.proofs.Common.{ap, ◌∙◌, ◌++◌, List, ℕ}
use Rattle.std.specs.Prelude.{codes}
use Rattle.std.specs.List.{flat_map}
use Rattle.g_lines.specs.Lines.{text_of}
use Rattle.g_look.specs.Lists.{missing_text}
use Rattle.g_look.specs.Numbers.{dumped_line, lines_at, lines_dumped}
use Rattle.g_look.specs.Text.{told}
use Rattle.g_look.proofs.NumberLemmas.{last_line}
use Rattle.g_look.proofs.restoring.tree_text.Goals as goal

pub returns : goal.returns
returns c =
    c.in_ok-push_missing.ensures
    ∙ ap (λ (xs : List ℕ). xs ++ missing_text c.args.missing)
    (last_line (flat_map (lines_at (dumped_line c.args.tree.now.users) c.args.tree.now.files) c.as_slice.result.now) (told (codes "RESTORABLE FROM DUMP ") c.args.number) _ _ _ _ c.new-text.ensures c.in_ok-push_lines.ensures
    c.in_ok-push_told.ensures c.in_ok-push.ensures.ok
    ∙ ap (λ ns. text_of (lines_dumped c.args.tree.now.users c.args.tree.now.files c.args.number ns)) (c.as_slice.ensures.value ∙ c.in_ok-numbers.ensures))
