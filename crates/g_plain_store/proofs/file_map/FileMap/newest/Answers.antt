-- The entries in order are those of the map.
use Rattle.std.proofs.Common.{◌∙◌, ap, sym, fold, max}
use Rattle.std.specs.FinMap as finmap
use Rattle.g_name.proofs.Order.{full_total}
use Rattle.g_plain.proofs.Maps.{entries-made}
use Rattle.g_plain.proofs.TextMaps.{full_exact}
use Rattle.g_plain.specs.PlainTree.{generations}
use Rattle.g_plain_store.proofs.file_map.FileMap.newest.Goals as goal

pub returns : goal.returns
returns c = c.newest_in.ensures.newest ∙ ap (λ es. fold max 0 (generations c.args.full.now es)) (sym (entries-made full_total full_exact _ c.newest_in.ensures.ordered) ∙ ap finmap.entries c.self.view_is)
