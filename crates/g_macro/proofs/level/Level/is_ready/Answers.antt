use Rattle.std.proofs.Common.{Bool, List, ap, not, refl, sym, ℕ, ◌||◌, ◌∙◌, ◌≡◌}
use Rattle.g_macro.proofs.HoldingLemmas.{closed_left, ready_by}
use Rattle.g_macro.specs.Expansion.{substituted}
use Rattle.g_macro.specs.Holding.{is_closed, line_ready, takes_input}
use Rattle.g_macro.specs.Levels.{Level, as_taken, line_at}
use Rattle.g_macro.proofs.level.Level.is_ready.Goals as goal

-- the next line is no INPUT
pub returns-then-not-is_input : goal.returns-then-not-is_input
returns-then-not-is_input c =
    let level : Level = record { lines = c.self.inside.cursor.lines; params = c.self.inside.params; taken = c.self.inside.cursor.taken; entries = c.self.inside.entries.items } in
    let input : c.is_input.result ≡ takes_input (as_taken (substituted level.params (line_at level))) =
    c.is_input.ensures ∙ ap (λ (line : List ℕ). takes_input (as_taken (substituted level.params line))) c.line.ensures in
    ap not c.if-not-is_input.true ∙ ap (λ (b : Bool). not b || is_closed level) (sym c.if-not-is_input.true)
    ∙ ready_by level c.is_input.result (is_closed level) (sym c.has_line.ensures ∙ c.if-not-has_line.false) input refl ∙ ap line_ready c.self.view_is

-- its document ends
pub returns-else-not-is_input : goal.returns-else-not-is_input
returns-else-not-is_input c =
    let level : Level = record { lines = c.self.inside.cursor.lines; params = c.self.inside.params; taken = c.self.inside.cursor.taken; entries = c.self.inside.entries.items } in
    let input : c.is_input.result ≡ takes_input (as_taken (substituted level.params (line_at level))) =
    c.is_input.ensures ∙ ap (λ (line : List ℕ). takes_input (as_taken (substituted level.params line))) c.line.ensures in
    let closed : c.is_closed.result ≡ is_closed level = c.is_closed.ensures ∙ closed_left level c.left.result.now c.left.ensures.lines in
    ap (λ (b : Bool). not b || c.is_closed.result) (sym c.if-not-is_input.false)
    ∙ ready_by level c.is_input.result c.is_closed.result (sym c.has_line.ensures ∙ c.if-not-has_line.false) input closed ∙ ap line_ready c.self.view_is
