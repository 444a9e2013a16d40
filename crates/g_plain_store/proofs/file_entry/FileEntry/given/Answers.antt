-- What the ordered map finds is what the map of its entries has.
use Rattle.std.proofs.Common.{◌∙◌, ap, sym, unwrap_or}
use Rattle.std.specs.FinMap as map
use Rattle.g_plain.specs.PlainTree.{FileRow}
use Rattle.g_plain.proofs.Maps.{get-made}
use Rattle.g_plain.proofs.TextMaps.{text_total}
use Rattle.g_plain_store.proofs.file_entry.FileEntry.given.Goals as goal

pub returns-in-Some : goal.returns-in-Some
returns-in-Some c = ap (λ o. unwrap_or o 0) (c.in-Some.ensures.value ∙ sym (get-made text_total _ c.args.user.now) ∙ ap (λ (row : FileRow). map.get row.traps c.args.user.now) c.self.view_is)

pub returns-in-None : goal.returns-in-None
returns-in-None c = c.none.ensures ∙ ap (λ o. unwrap_or o 0) (c.in-None.ensures.value ∙ sym (get-made text_total _ c.args.user.now) ∙ ap (λ (row : FileRow). map.get row.traps c.args.user.now) c.self.view_is)
