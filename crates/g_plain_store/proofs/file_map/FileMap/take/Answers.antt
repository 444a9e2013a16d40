-- The entry that is taken out is the row, and the map is without it.
use Rattle.std.proofs.Common.{◌∙◌, ap}
use Rattle.std.specs.FinMap as map
use Rattle.g_name.proofs.Order.{full_total}
use Rattle.g_plain.proofs.Maps.{made_remove}
use Rattle.g_plain.proofs.TextMaps.{full_exact}
use Rattle.g_plain_store.proofs.Rows.{row_found, not_absent}
use Rattle.g_plain_store.proofs.file_map.FileMap.take.Goals as goal

pub unreachable-requires : goal.unreachable-requires
unreachable-requires c = not_absent _ c.requires (row_found _ _ c.args.full.now _ c.self.view_is c.in-None.ensures.value)

pub returns-clause-row : goal.returns-clause-row
returns-clause-row c = row_found _ _ c.args.full.now _ c.self.view_is c.in-Some.ensures.value

pub returns-clause-taken : goal.returns-clause-taken
returns-clause-taken c = made_remove full_total full_exact _ _ c.args.full.now c.remove.ensures.updates.0 ∙ ap (λ m. map.remove m c.args.full.now) c.self.view_is
