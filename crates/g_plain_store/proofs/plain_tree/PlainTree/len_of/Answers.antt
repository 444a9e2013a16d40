-- A file that doesn't exist has no bytes.
use Rattle.std.proofs.Common.{ap, ◌∙◌}
use Rattle.std.specs.FinMap as map
use Rattle.g_plain.proofs.TreeLemmas.{length-no_row}
use Rattle.g_plain_store.proofs.plain_tree.PlainTree.len_of.Goals as goal

pub returns-in-None-clause-value : goal.returns-in-None-clause-value
returns-in-None-clause-value c = length-no_row _ (c.in-None.ensures ∙ ap (λ t. map.get t.files c.args.full.now) c.self.view_is)
