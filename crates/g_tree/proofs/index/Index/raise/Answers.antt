-- If the name is found, its entry is written back in place with the newer of the two.
use Rattle.std.proofs.Common.{◌≡◌, Some, None, is_some, ap, ◌∙◌}
use Rattle.std.specs.FinMap as map
use Rattle.g_name.specs.Order.{full_cmp}
use Rattle.g_tree.specs.State.{raised_at}
use Rattle.g_tree.specs.declared.index.NameEntry.{NameEntry}
use Rattle.g_tree.proofs.IndexLemmas.{get_indexed, indexed_insert, found_there}
use Rattle.g_tree.proofs.index.Index.raise.Goals as goal

pub returns-clause-there : goal.returns-clause-there
returns-clause-there c =
    ap is_some (c.in-Some.ensures.value ∙ get_indexed _ c.args.full.now ∙ ap (λ s. map.get s.entries c.args.full.now) c.self.view_is)

pub returns-clause-entries : goal.returns-clause-entries
returns-clause-entries c =
    let was : NameEntry = c.in-Some.there.now in
    let written : NameEntry = c.lifted.result in
    let lent = c.get_mut.follows.holds written in
    let found : Some was ≡ map.get c.args.self.now.entries c.args.full.now =
    c.in-Some.ensures.value ∙ get_indexed _ c.args.full.now ∙ ap (λ s. map.get s.entries c.args.full.now) c.self.view_is in
    indexed_insert _ _ c.args.full.now written (lent.3 (found_there _ _ c.in-Some.ensures.value)).0
    ∙ ap (λ s. map.insert s.entries c.args.full.now written) c.self.view_is
    ∙ ap (map.insert c.args.self.now.entries c.args.full.now) c.lifted.ensures
    ∙ ap (raised_at c.args.self.now.entries c.args.full.now c.args.newest c.args.number) found

pub returns-clause-spare : goal.returns-clause-spare
returns-clause-spare c =
    let lent = c.get_mut.follows.holds c.lifted.result in
    lent.6 ∙ ap (λ s. s.spare) c.self.view_is

pub returns-in_default-clause-there : goal.returns-in_default-clause-there
returns-in_default-clause-there c =
    ap is_some (c.in_default.ensures.value ∙ get_indexed _ c.args.full.now ∙ ap (λ s. map.get s.entries c.args.full.now) c.self.view_is)

pub returns-in_default-clause-entries : goal.returns-in_default-clause-entries
returns-in_default-clause-entries c =
    let absent : None ≡ map.get c.args.self.now.entries c.args.full.now =
    c.in_default.ensures.value ∙ get_indexed _ c.args.full.now ∙ ap (λ s. map.get s.entries c.args.full.now) c.self.view_is in
    ap (λ n. map.from_entries {R = full_cmp} n.entries) c.get_mut.follows.holds-at-none ∙ ap (λ s. s.entries) c.self.view_is ∙ ap (raised_at c.args.self.now.entries c.args.full.now c.args.newest c.args.number) absent
