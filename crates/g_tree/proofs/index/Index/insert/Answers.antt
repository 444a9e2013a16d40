-- Inserting an entry gives the map with it inserted.
use Rattle.std.proofs.Common.{◌∙◌, ap}
use Rattle.std.specs.FinMap as map
use Rattle.g_tree.proofs.IndexLemmas.{get_indexed, indexed_insert}
use Rattle.g_tree.proofs.index.Index.insert.Goals as goal

pub returns-clause-was : goal.returns-clause-was
returns-clause-was c = c.in-Ok.ensures.old ∙ get_indexed _ c.args.full ∙ ap (λ s. map.get s.entries c.args.full) c.self.view_is

pub returns-clause-entries : goal.returns-clause-entries
returns-clause-entries c = indexed_insert _ _ c.args.full _ c.in-Ok.ensures.updates.0 ∙ ap (λ s. map.insert s.entries c.args.full c.args.entry) c.self.view_is
