use Rattle.std.proofs.Common.{List, ap, sym, ℕ, ◌∙◌, ◌≡◌}
use Rattle.g_macro.proofs.HoldingLemmas.{ready_new}
use Rattle.g_macro.specs.Expansion.{substituted}
use Rattle.g_macro.specs.Holding.{line_added, line_ready, takes_input}
use Rattle.g_macro.specs.Levels.{Level, as_taken}
use Rattle.g_macro.proofs.level.Level.is_ready_with.Goals as goal

-- no line is left, and this one is no INPUT
pub returns : goal.returns
returns c =
    let level : Level = record { lines = c.self.inside.cursor.lines; params = c.self.inside.params; taken = c.self.inside.cursor.taken; entries = c.self.inside.entries.items } in
    let input : c.is_input.result ≡ takes_input (as_taken (substituted level.params c.args.line.now)) =
    c.is_input.ensures in
    ready_new level c.args.line.now c.is_input.result c.self.invariant.taken (sym c.has_line.ensures ∙ c.if-has_line.false) input
    ∙ ap (λ (l : Level). line_ready (line_added c.args.line.now l)) c.self.view_is
