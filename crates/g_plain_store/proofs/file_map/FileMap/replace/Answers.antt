-- Replacing an existing entry allocates nothing.
use Rattle.std.proofs.Common.{◌∙◌, ap, sym}
use Rattle.std.specs.FinMap as map
use Rattle.g_name.proofs.Order.{full_total}
use Rattle.g_plain.proofs.Maps.{made_insert}
use Rattle.g_plain.proofs.TextMaps.{full_exact}
use Rattle.g_plain_store.proofs.Rows.{row_found, not_absent}
use Rattle.g_plain_store.proofs.file_map.FileMap.replace.Goals as goal

pub unreachable-requires : goal.unreachable-requires
unreachable-requires c = not_absent _ c.requires (row_found _ _ c.args.full _ c.self.view_is (sym c.in-Err.ensures.absent))

pub returns : goal.returns
returns c = made_insert full_total full_exact _ _ c.args.full _ c.in-Ok.ensures.updates.0 ∙ ap (λ m. map.insert m c.args.full c.args.entry) c.self.view_is
