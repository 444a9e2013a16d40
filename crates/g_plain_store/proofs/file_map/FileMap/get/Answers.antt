-- What the ordered map finds is what the map of its entries has.
use Rattle.std.proofs.Common.{◌∙◌, ap, sym}
use Rattle.std.specs.FinMap as map
use Rattle.g_name.proofs.Order.{full_total}
use Rattle.g_plain.proofs.Maps.{get-made}
use Rattle.g_plain_store.proofs.file_map.FileMap.get.Goals as goal

pub returns : goal.returns
returns c = c.get.ensures.value ∙ sym (get-made full_total _ c.args.full.now) ∙ ap (λ m. map.get m c.args.full.now) c.self.view_is
