-- Removing an entry gives the map without it.
use Rattle.std.proofs.Common.{◌∙◌, ap}
use Rattle.std.specs.FinMap as map
use Rattle.g_name.proofs.Order.{full_total}
use Rattle.g_plain.proofs.Maps.{made_remove}
use Rattle.g_plain.proofs.TextMaps.{full_exact}
use Rattle.g_plain_store.proofs.file_map.FileMap.remove.Goals as goal

pub returns : goal.returns
returns c = made_remove full_total full_exact _ _ c.args.full.now c.remove.ensures.updates.0 ∙ ap (λ m. map.remove m c.args.full.now) c.self.view_is
