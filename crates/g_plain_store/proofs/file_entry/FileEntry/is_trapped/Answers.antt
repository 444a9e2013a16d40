-- What the ordered map finds is what the map of its entries has.
use Rattle.std.proofs.Common.{◌∙◌, ap, sym, is_some}
use Rattle.std.specs.FinMap as map
use Rattle.g_plain.specs.PlainTree.{FileRow}
use Rattle.g_plain.proofs.Maps.{get-made}
use Rattle.g_plain.proofs.TextMaps.{text_total}
use Rattle.g_plain_store.proofs.file_entry.FileEntry.is_trapped.Goals as goal

pub returns : goal.returns
returns c = c.contains_key.ensures ∙ ap is_some (sym (get-made text_total _ c.args.user.now) ∙ ap (λ (row : FileRow). map.get row.traps c.args.user.now) c.self.view_is)
