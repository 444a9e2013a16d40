-- Inserting a user's modes gives the traps with them inserted.
use Rattle.std.proofs.Common.{◌∙◌, ap}
use Rattle.std.specs.FinMap as map
use Rattle.g_plain.proofs.Maps.{made_insert}
use Rattle.g_plain.proofs.TextMaps.{text_total, text_exact}
use Rattle.g_plain_store.proofs.Rows.{with_row_traps}
use Rattle.g_plain_store.proofs.file_entry.FileEntry.give.Goals as goal

pub returns-clause-ok : goal.returns-clause-ok
returns-clause-ok c =
    ap (λ m. with_row_traps m (record { traps = m; bytes = c.self.inside.bytes; stamp = c.self.inside.stamp })) (made_insert text_total text_exact _ _ c.args.user _ c.in_ok-insert.ensures.updates.0)
    ∙ ap (λ row. with_row_traps (map.insert row.traps c.args.user c.args.modes) row) c.self.view_is
