-- The sorted entries are those of the map.
use Rattle.std.proofs.Common.{ℕ, map, ap, ◌∙◌}
use Rattle.g_tree.specs.declared.sorted.LocalName.{LocalName}
use Rattle.g_tree.proofs.ResultLemmas.{ok_then}
use Rattle.g_tree.proofs.SortedLemmas.{listed_are}
use Rattle.g_tree.proofs.sorted.listing_of.Goals as goal

pub returns : goal.returns
returns c =
    ok_then c.numbers_of.result
    (λ list is. is ∙ ap (map (λ (e : LocalName × ℕ). e.1)) c.deref.ensures.value
    ∙ listed_are c.args.owner c.args.files.now _ c.sort_unstable.new.self.items c.requires c.in_ok-entries.ensures c.sort_unstable.ensures.permutation c.sort_unstable.ensures.sorted) c.numbers_of.ensures
