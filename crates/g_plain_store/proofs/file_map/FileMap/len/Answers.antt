-- Entries in order are as many as the map has.
use Rattle.std.proofs.Common.{◌∙◌, ap, sym}
use Rattle.std.specs.FinMap as map
use Rattle.g_name.proofs.Order.{full_total}
use Rattle.g_plain.proofs.Maps.{len-made}
use Rattle.g_plain.proofs.TextMaps.{full_exact}
use Rattle.g_plain_store.proofs.file_map.FileMap.len.Goals as goal

pub returns : goal.returns
returns c = c.len.ensures.len ∙ sym (len-made full_total full_exact _ c.len.ensures.ordered) ∙ ap map.len c.self.view_is
