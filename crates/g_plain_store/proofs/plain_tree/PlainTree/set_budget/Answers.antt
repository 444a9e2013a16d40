-- The row that was found is written back changed.
use Rattle.std.proofs.Common.{◌∙◌, ap, sym, unwrap_or}
use Rattle.std.specs.FinMap as map
use Rattle.g_plain.specs.PlainTree.{Tree, no_budgets}
use Rattle.g_plain.specs.PlainStep.{with_budget}
use Rattle.g_plain.proofs.Maps.{get-made, made_insert}
use Rattle.g_plain.proofs.TextMaps.{text_total, text_exact}
use Rattle.g_plain_store.proofs.Rows.{not_absent, found_some, with_users}
use Rattle.g_plain_store.proofs.plain_tree.PlainTree.set_budget.Goals as goal

pub unreachable-requires : goal.unreachable-requires
unreachable-requires c = not_absent _ c.requires.there (c.in-None.ensures.value ∙ sym (get-made text_total _ c.args.user.now) ∙ ap (λ (t : Tree). map.get t.users c.args.user.now) c.self.view_is)

pub returns : goal.returns
returns c =
    let found = c.in-Some.ensures.value ∙ sym (get-made text_total _ c.args.user.now) ∙ ap (λ (t : Tree). map.get t.users c.args.user.now) c.self.view_is in
    let lent = c.get_mut.follows.holds c.set.new.self in
    ap (λ m. with_users m (record { users = m; files = c.self.inside.files; next = c.self.inside.next })) (made_insert text_total text_exact _ _ c.args.user.now _ (lent.3 (found_some _ _ c.in-Some.ensures.value)).0)
    ∙ ap (λ t. with_users (map.insert t.users c.args.user.now c.set.new.self) t) c.self.view_is
    ∙ ap (λ row. with_users (map.insert c.args.self.now.users c.args.user.now row) c.args.self.now) (c.set.ensures ∙ ap (λ row. with_budget row c.args.kind c.args.amount) (ap (λ o. unwrap_or o no_budgets) found))
