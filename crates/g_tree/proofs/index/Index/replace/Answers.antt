-- What was found is written back, in the room that it had.
use Rattle.std.proofs.Common.{◌∙◌, sym, ap, is_some, true≢false}
use Rattle.std.specs.FinMap as map
use Rattle.g_tree.proofs.IndexLemmas.{get_indexed, indexed_insert, found_there}
use Rattle.g_tree.proofs.index.Index.replace.Goals as goal

pub unreachable-requires : goal.unreachable-requires
unreachable-requires c = true≢false (sym c.requires ∙ ap is_some (sym (c.in-None.ensures.value ∙ get_indexed _ c.args.full.now ∙ ap (λ s. map.get s.entries c.args.full.now) c.self.view_is)))

pub returns-clause-entries : goal.returns-clause-entries
returns-clause-entries c =
    let lent = c.get_mut.follows.holds c.args.entry in
    indexed_insert _ _ c.args.full.now c.args.entry (lent.3 (found_there _ _ c.in-Some.ensures.value)).0 ∙ ap (λ s. map.insert s.entries c.args.full.now c.args.entry) c.self.view_is

pub returns-clause-spare : goal.returns-clause-spare
returns-clause-spare c = let lent = c.get_mut.follows.holds c.args.entry in lent.6 ∙ ap (λ s. s.spare) c.self.view_is
