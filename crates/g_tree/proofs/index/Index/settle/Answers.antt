-- The entry that is found is written back with the other newest, in the room that it had.
use Rattle.std.proofs.Common.{◌≡◌, Some, is_some, sym, ap, ◌∙◌, true≢false}
use Rattle.std.specs.FinMap as map
use Rattle.g_tree.specs.State.{settled_at}
use Rattle.g_tree.specs.declared.index.NameEntry.{NameEntry}
use Rattle.g_tree.proofs.IndexLemmas.{get_indexed, indexed_insert, found_there}
use Rattle.g_tree.proofs.index.Index.settle.Goals as goal

pub unreachable-requires : goal.unreachable-requires
unreachable-requires c = true≢false (sym c.requires ∙ ap is_some (sym (c.in-None.ensures.value ∙ get_indexed _ c.args.full.now ∙ ap (λ s. map.get s.entries c.args.full.now) c.self.view_is)))

pub returns-clause-entries : goal.returns-clause-entries
returns-clause-entries c =
    let was : NameEntry = c.in-Some.there.now in
    let written : NameEntry = record { number = was.number; newest = c.args.newest.generation; top = c.args.newest.number } in
    let lent = c.get_mut.follows.holds written in
    let found : Some was ≡ map.get c.args.self.now.entries c.args.full.now =
    c.in-Some.ensures.value ∙ get_indexed _ c.args.full.now ∙ ap (λ s. map.get s.entries c.args.full.now) c.self.view_is in
    indexed_insert _ _ c.args.full.now written (lent.3 (found_there _ _ c.in-Some.ensures.value)).0
    ∙ ap (λ s. map.insert s.entries c.args.full.now written) c.self.view_is
    ∙ ap (settled_at c.args.self.now.entries c.args.full.now c.args.newest.generation c.args.newest.number) found

pub returns-clause-spare : goal.returns-clause-spare
returns-clause-spare c =
    let was : NameEntry = c.in-Some.there.now in
    let lent = c.get_mut.follows.holds (record { number = was.number; newest = c.args.newest.generation; top = c.args.newest.number }) in
    lent.6 ∙ ap (λ s. s.spare) c.self.view_is
