-- Removing a user gives the traps without that user.
use Rattle.std.proofs.Common.{◌∙◌, ap}
use Rattle.std.specs.FinMap as map
use Rattle.g_plain.proofs.Maps.{made_remove}
use Rattle.g_plain.proofs.TextMaps.{text_total, text_exact}
use Rattle.g_plain_store.proofs.Rows.{with_row_traps}
use Rattle.g_plain_store.proofs.file_entry.FileEntry.take_from.Goals as goal

pub returns : goal.returns
returns c =
    ap (λ m. with_row_traps m (record { traps = m; bytes = c.self.inside.bytes; stamp = c.self.inside.stamp })) (made_remove text_total text_exact _ _ c.args.user.now c.remove.ensures.updates.0)
    ∙ ap (λ row. with_row_traps (map.remove row.traps c.args.user.now) row) c.self.view_is
