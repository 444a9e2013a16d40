-- Inserting a row gives the users with it inserted.
use Rattle.std.proofs.Common.{◌∙◌, ap}
use Rattle.std.specs.FinMap as map
use Rattle.g_plain.proofs.Maps.{made_insert}
use Rattle.g_plain.proofs.TextMaps.{text_total, text_exact}
use Rattle.g_plain_store.proofs.Rows.{with_users}
use Rattle.g_plain_store.proofs.plain_tree.PlainTree.add_user.Goals as goal

pub returns-clause-ok : goal.returns-clause-ok
returns-clause-ok c =
    ap (λ m. with_users m (record { users = m; files = c.self.inside.files; next = c.self.inside.next })) (made_insert text_total text_exact _ _ c.args.user _ c.in_ok-insert.ensures.updates.0)
    ∙ ap (λ t. with_users (map.insert t.users c.args.user c.args.entry) t) c.self.view_is
