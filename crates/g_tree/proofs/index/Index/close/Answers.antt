-- What is found is taken out at its place, or loses its number.
use Rattle.std.proofs.Common.{◌≡◌, Some, None, IfSome, is_some, sym, ap, subst, ◌∙◌}
use Rattle.std.specs.FinMap as map
use Rattle.indexmap.specs.IndexMap.{Updates}
use Rattle.g_name.proofs.Order.{full_eq}
use Rattle.g_tree.specs.State.{closed_at}
use Rattle.g_tree.proofs.IndexLemmas.{get_indexed, indexed_remove, key_found}
use Rattle.g_tree.proofs.EntryLemmas.{closed_few, closed_some}
use Rattle.g_tree.proofs.index.Index.close.Goals as goal

pub returns-in_default-clause-entries : goal.returns-in_default-clause-entries
returns-in_default-clause-entries c =
    let absent : None ≡ map.get c.args.self.now.entries c.args.full.now =
    c.in_default.ensures.value ∙ get_indexed _ c.args.full.now ∙ ap (λ s. map.get s.entries c.args.full.now) c.self.view_is in
    ap (λ o. closed_at c.args.self.now.entries c.args.full.now o) absent

pub returns-then-newest-lt2-clause-entries : goal.returns-then-newest-lt2-clause-entries
returns-then-newest-lt2-clause-entries c =
    let old = c.self.inside.names in
    let full = c.args.full.now in
    let found : map.get c.args.self.now.entries full ≡ Some c.in-Some.entry.now =
    sym (c.in-Some.ensures.value ∙ get_indexed _ full ∙ ap (λ s. map.get s.entries full) c.self.view_is) in
    let taken : c.swap_remove_index.result ≡ Some (c.in-Some._name.now, c.in-Some.entry.now) = c.swap_remove_index.ensures.entry ∙ c.in-Some.ensures.entry in
    let updates = subst (λ o. IfSome o (λ p. Updates full_eq old c.swap_remove_index.new.self p.0 None)) taken c.swap_remove_index.ensures.updates in
    indexed_remove _ _ c.in-Some._name.now updates.0
    ∙ ap (λ k. map.remove (map.from_entries old.entries) k) (key_found full c.in-Some._name.now old.entries c.in-Some.ensures.key)
    ∙ ap (λ s. map.remove s.entries full) c.self.view_is
    ∙ closed_few c.args.self.now.entries full c.in-Some.entry.now found c.if-newest-lt2.true

pub replace-requires : goal.replace-requires
replace-requires c =
    let full = c.args.full.now in
    sym (ap is_some (c.in-Some.ensures.value ∙ get_indexed _ full ∙ ap (λ s. map.get s.entries full) c.self.view_is))

pub returns-clause-entries : goal.returns-clause-entries
returns-clause-entries c =
    let full = c.args.full.now in
    let found : map.get c.args.self.now.entries full ≡ Some c.in-Some.entry.now =
    sym (c.in-Some.ensures.value ∙ get_indexed _ full ∙ ap (λ s. map.get s.entries full) c.self.view_is) in
    c.replace.ensures.entries ∙ closed_some c.args.self.now.entries full c.in-Some.entry.now found c.if-newest-lt2.false
