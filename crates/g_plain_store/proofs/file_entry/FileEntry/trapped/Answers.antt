-- Entries in order are as many as the map has.
use Rattle.std.proofs.Common.{◌∙◌, ap, sym}
use Rattle.std.specs.FinMap as map
use Rattle.g_plain.specs.PlainTree.{FileRow}
use Rattle.g_plain.proofs.Maps.{len-made}
use Rattle.g_plain.proofs.TextMaps.{text_total, text_exact}
use Rattle.g_plain_store.proofs.file_entry.FileEntry.trapped.Goals as goal

pub returns : goal.returns
returns c = c.len.ensures.len ∙ sym (len-made text_total text_exact _ c.len.ensures.ordered) ∙ ap (λ (row : FileRow). map.len row.traps) c.self.view_is
