-- If there are two versions, the entry is written back in place with generation 1.
use Rattle.std.proofs.Common.{◌≡◌, Some, None, sym, ap, ◌∙◌}
use Rattle.std.specs.FinMap as map
use Rattle.g_name.specs.Order.{full_cmp}
use Rattle.g_tree.specs.State.{fallen_at}
use Rattle.g_tree.specs.declared.index.NameEntry.{NameEntry}
use Rattle.g_tree.proofs.EntryLemmas.{fallen_same, fallen_two, insert_same}
use Rattle.g_tree.proofs.IndexLemmas.{get_indexed, indexed_insert, found_there}
use Rattle.g_tree.proofs.index.Index.fall.Goals as goal

pub returns-in_default-clause-was : goal.returns-in_default-clause-was
returns-in_default-clause-was c = c.in_default.ensures.value ∙ get_indexed _ c.args.full.now ∙ ap (λ s. map.get s.entries c.args.full.now) c.self.view_is

pub returns-in_default-clause-entries : goal.returns-in_default-clause-entries
returns-in_default-clause-entries c =
    let absent : None ≡ map.get c.args.self.now.entries c.args.full.now =
    c.in_default.ensures.value ∙ get_indexed _ c.args.full.now ∙ ap (λ s. map.get s.entries c.args.full.now) c.self.view_is in
    ap (λ n. map.from_entries {R = full_cmp} n.entries) c.get_mut.follows.holds-at-none ∙ ap (λ s. s.entries) c.self.view_is ∙ ap (fallen_at c.args.self.now.entries c.args.full.now) absent

pub returns-then-is_first_of_two-clause-was : goal.returns-then-is_first_of_two-clause-was
returns-then-is_first_of_two-clause-was c = c.in-Some.ensures.value ∙ get_indexed _ c.args.full.now ∙ ap (λ s. map.get s.entries c.args.full.now) c.self.view_is

pub returns-then-is_first_of_two-clause-entries : goal.returns-then-is_first_of_two-clause-entries
returns-then-is_first_of_two-clause-entries c =
    let was : NameEntry = c.in-Some.there.now in
    let written : NameEntry = record { number = was.number; newest = 1; top = was.number } in
    let lent = c.get_mut.follows.holds written in
    let found : Some was ≡ map.get c.args.self.now.entries c.args.full.now =
    c.in-Some.ensures.value ∙ get_indexed _ c.args.full.now ∙ ap (λ s. map.get s.entries c.args.full.now) c.self.view_is in
    indexed_insert _ _ c.args.full.now written (lent.3 (found_there _ _ c.in-Some.ensures.value)).0
    ∙ ap (λ s. map.insert s.entries c.args.full.now written) c.self.view_is
    ∙ sym (fallen_two c.args.self.now.entries c.args.full.now was (sym found) (sym c.is_first_of_two.ensures ∙ c.if-is_first_of_two.true))

pub returns-then-is_first_of_two-clause-spare : goal.returns-then-is_first_of_two-clause-spare
returns-then-is_first_of_two-clause-spare c =
    let was : NameEntry = c.in-Some.there.now in
    let lent = c.get_mut.follows.holds (record { number = was.number; newest = 1; top = was.number }) in
    lent.6 ∙ ap (λ s. s.spare) c.self.view_is

pub returns-clause-was : goal.returns-clause-was
returns-clause-was c = c.in-Some.ensures.value ∙ get_indexed _ c.args.full.now ∙ ap (λ s. map.get s.entries c.args.full.now) c.self.view_is

pub returns-clause-entries : goal.returns-clause-entries
returns-clause-entries c =
    let was : NameEntry = c.in-Some.there.now in
    let lent = c.get_mut.follows.holds was in
    let found : Some was ≡ map.get c.args.self.now.entries c.args.full.now =
    c.in-Some.ensures.value ∙ get_indexed _ c.args.full.now ∙ ap (λ s. map.get s.entries c.args.full.now) c.self.view_is in
    indexed_insert _ _ c.args.full.now was (lent.3 (found_there _ _ c.in-Some.ensures.value)).0
    ∙ ap (λ s. map.insert s.entries c.args.full.now was) c.self.view_is
    ∙ insert_same c.args.self.now.entries c.args.full.now was (sym found)
    ∙ sym (fallen_same c.args.self.now.entries c.args.full.now was (sym found) (sym c.is_first_of_two.ensures ∙ c.if-is_first_of_two.false))

pub returns-clause-spare : goal.returns-clause-spare
returns-clause-spare c =
    let lent = c.get_mut.follows.holds c.in-Some.there.now in
    lent.6 ∙ ap (λ s. s.spare) c.self.view_is
