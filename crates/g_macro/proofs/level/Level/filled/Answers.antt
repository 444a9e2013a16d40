use Rattle.std.proofs.Common.{IfOk, ap, subst, List, ℕ}
use Rattle.g_macro.specs.Expansion.{substituted}
use Rattle.g_macro.specs.Fronts.{IsFilled}
use Rattle.g_macro.specs.Levels.{Level}
use Rattle.g_macro.proofs.level.Level.filled.Goals as goal

pub returns : goal.returns
returns c =
    subst (λ (ps : List (List ℕ)). IfOk c.fill_in.result (IsFilled (substituted ps c.args.line.now))) (ap (λ (level : Level). level.params) c.self.view_is) c.fill_in.ensures
