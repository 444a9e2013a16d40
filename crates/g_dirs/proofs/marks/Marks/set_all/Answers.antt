use Rattle.std.proofs.Common.{◌∙◌, ℕ, ap, true, replicate, rules}
use Rattle.g_dirs.proofs.marks.Marks.set_all.Goals as goal

pub returns : goal.returns
returns c = c.fill.ensures.items (λ y is. search rules) ∙ ap (λ (n : ℕ). replicate n true) c.self.invariant.0
