-- The row that was found is written back with other bytes.
use Rattle.std.proofs.Common.{◌∙◌, ap}
use Rattle.std.specs.FinMap as map
use Rattle.g_plain_store.proofs.Rows.{row_found, not_absent, found_some, written, row_is, renewed}
use Rattle.g_plain_store.proofs.file_map.FileMap.renew.Goals as goal

pub unreachable-requires : goal.unreachable-requires
unreachable-requires c = not_absent _ c.requires.there (row_found _ _ c.args.full.now _ c.self.view_is c.in-None.ensures.value)

pub returns : goal.returns
returns c =
    let found = row_found _ _ c.args.full.now _ c.self.view_is c.in-Some.ensures.value in
    let lent = c.get_mut.follows.holds c.renew.new.self in
    written _ _ _ c.args.full.now _ c.self.view_is (lent.3 (found_some _ _ c.in-Some.ensures.value)).0
    ∙ ap (map.insert c.args.self.now c.args.full.now) (c.renew.ensures ∙ ap (renewed c.args.bytes c.args.stamp) (row_is _ _ found))
