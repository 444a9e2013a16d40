-- Inserting an entry gives the map with it inserted.
use Rattle.std.proofs.Common.{◌∙◌, ap}
use Rattle.std.specs.FinMap as map
use Rattle.g_name.proofs.Order.{full_total}
use Rattle.g_plain.proofs.Maps.{made_insert}
use Rattle.g_plain.proofs.TextMaps.{full_exact}
use Rattle.g_plain_store.proofs.file_map.FileMap.insert.Goals as goal

pub returns-clause-ok : goal.returns-clause-ok
returns-clause-ok c = made_insert full_total full_exact _ _ c.args.full _ c.in_ok-insert.ensures.updates.0 ∙ ap (λ m. map.insert m c.args.full c.args.entry) c.self.view_is
