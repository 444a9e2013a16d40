use Rattle.std.proofs.Common.{ap, not, ℕ, ◌==◌, ◌∙◌}
use Rattle.g_macro.specs.Levels.{has_entry}
use Rattle.g_macro.proofs.level.Level.has_entry.Goals as goal

pub returns : goal.returns
returns c = ap not (c.is_empty.ensures ∙ ap (λ (n : ℕ). n == 0) c.self.inside.entries.ok.0) ∙ ap has_entry c.self.view_is
