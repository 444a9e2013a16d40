-- Removing an entry gives the map without it.
use Rattle.std.proofs.Common.{◌∙◌, ap}
use Rattle.std.specs.FinMap as map
use Rattle.g_tree.proofs.IndexLemmas.{indexed_remove}
use Rattle.g_tree.proofs.index.Index.remove.Goals as goal

pub returns-clause-entries : goal.returns-clause-entries
returns-clause-entries c = indexed_remove _ _ c.args.full.now c.swap_remove.ensures.updates.0 ∙ ap (λ s. map.remove s.entries c.args.full.now) c.self.view_is
