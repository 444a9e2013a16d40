-- The record of a number is that of the map.
use Rattle.std.proofs.Common.{sym, ap, ◌∙◌}
use Rattle.g_table.specs.Files.{rec_at}
use Rattle.g_tree.proofs.PlaceLemmas.{rec_found}
use Rattle.g_tree.proofs.tree.Tree.file_at.Goals as goal

pub returns-clause-value : goal.returns-clause-value
returns-clause-value c = c.get.ensures ∙ ap (λ s. rec_at s.files c.args.number) c.self.view_is ∙ sym (rec_found c.args.self.now.files c.args.number)
