-- The number is that of the entry.
use Rattle.std.proofs.Common.{sym, ap, ◌∙◌}
use Rattle.g_tree.specs.State.{number_at}
use Rattle.g_tree.proofs.counts.Counts.find.Goals as goal

pub returns-in-Some : goal.returns-in-Some
returns-in-Some c = ap (λ o. number_at o) (sym c.in-Some.is ∙ c.find.ensures)

pub returns-in-None : goal.returns-in-None
returns-in-None c = ap (λ o. number_at o) (sym c.in-None.is ∙ c.find.ensures)
