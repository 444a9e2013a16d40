-- What equality finds is what the map has.
use Rattle.std.proofs.Common.{◌∙◌, ap}
use Rattle.std.specs.FinMap as map
use Rattle.g_tree.proofs.IndexLemmas.{get_indexed}
use Rattle.g_tree.proofs.index.Index.find.Goals as goal

pub returns : goal.returns
returns c = c.copied.ensures ∙ c.get.ensures.value ∙ get_indexed _ c.args.full.now ∙ ap (λ s. map.get s.entries c.args.full.now) c.self.view_is
