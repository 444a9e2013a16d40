-- The entries in order are those of the map.
use Rattle.std.proofs.Common.{◌≤◌, ◌∙◌, ap, sym, sum_by, subst}
use Rattle.std.specs.FinMap as finmap
use Rattle.g_name.proofs.Order.{full_total}
use Rattle.g_plain.proofs.Maps.{entries-made}
use Rattle.g_plain.proofs.TextMaps.{full_exact}
use Rattle.g_plain.specs.PlainTree.{blocks_of}
use Rattle.g_plain_store.proofs.file_map.FileMap.used.Goals as goal

pub used_in-requires : goal.used_in-requires
used_in-requires c = subst (λ m. finmap.len m ≤ 1024) (sym c.self.view_is) c.requires

pub returns : goal.returns
returns c = c.used_in.ensures.used ∙ ap (sum_by (blocks_of c.args.user.now)) (sym (entries-made full_total full_exact _ c.used_in.ensures.ordered) ∙ ap finmap.entries c.self.view_is)
