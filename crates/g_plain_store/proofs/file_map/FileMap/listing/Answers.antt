-- The entries in order are those of the map.
use Rattle.std.proofs.Common.{◌≡◌, IfOk, ◌∙◌, ap, sym, subst}
use Rattle.std.specs.FinMap as finmap
use Rattle.g_name.proofs.Order.{full_total}
use Rattle.g_plain.proofs.Maps.{entries-made}
use Rattle.g_plain.proofs.TextMaps.{full_exact}
use Rattle.g_plain.specs.PlainTree.{lengths}
use Rattle.g_plain_store.proofs.file_map.FileMap.listing.Goals as goal

pub returns : goal.returns
returns c =
    subst (λ es. IfOk c.listing_of.result (λ listing. listing ≡ lengths c.args.user.now es)) (sym (entries-made full_total full_exact _ c.listing_of.ensures.ordered) ∙ ap finmap.entries c.self.view_is) c.listing_of.ensures.listing
