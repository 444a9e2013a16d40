use Rattle.std.proofs.Common.{ap, ℕ, ◌==◌, ◌∙◌}
use Rattle.g_macro.proofs.HoldingLemmas.{some_levels, typed_last}
use Rattle.g_macro.proofs.levels.Levels.add_line.Goals as goal

pub returns : goal.returns
returns c =
    let items = c.self.inside.levels.items in
    typed_last items c.self.inside.held c.index_mut.result.now c.add_line.new.self c.args.line c.args.self.now c.self.view_is
    (some_levels items c.is_empty.result (c.is_empty.ensures ∙ ap (λ (n : ℕ). n == 0) c.self.inside.levels.ok.0) c.if-is_empty.false) c.index_mut.ensures.value c.in_ok-add_line.ensures.ok
