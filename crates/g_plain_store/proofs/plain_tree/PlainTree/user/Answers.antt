-- What the ordered map finds is what the map of its entries has.
use Rattle.std.proofs.Common.{◌∙◌, ap, sym}
use Rattle.std.specs.FinMap as map
use Rattle.g_plain.specs.PlainTree.{Tree}
use Rattle.g_plain.proofs.Maps.{get-made}
use Rattle.g_plain.proofs.TextMaps.{text_total}
use Rattle.g_plain_store.proofs.plain_tree.PlainTree.user.Goals as goal

pub returns : goal.returns
returns c = c.get.ensures.value ∙ sym (get-made text_total _ c.args.user.now) ∙ ap (λ (t : Tree). map.get t.users c.args.user.now) c.self.view_is
