-- The row that was found is written back with other traps, or unchanged.
use Rattle.std.proofs.Common.{◌∙◌, ap}
use Rattle.std.specs.FinMap as map
use Rattle.g_plain_store.proofs.Rows.{row_found, not_absent, found_some, written, row_is, with_row_modes, insert_same, on_ok, on_err}
use Rattle.g_plain_store.proofs.file_map.FileMap.set_traps.Goals as goal

pub unreachable-requires : goal.unreachable-requires
unreachable-requires c = not_absent _ c.requires (row_found _ _ c.args.full.now _ c.self.view_is c.in-None.ensures.value)

pub returns-clause-ok : goal.returns-clause-ok
returns-clause-ok c =
    let found = row_found _ _ c.args.full.now _ c.self.view_is c.in-Some.ensures.value in
    let lent = c.get_mut.follows.holds c.set_traps.new.self in
    let is = written _ _ _ c.args.full.now _ c.self.view_is (lent.3 (found_some _ _ c.in-Some.ensures.value)).0 in
    on_ok _ (λ e. is ∙ ap (map.insert c.args.self.now c.args.full.now) (e ∙ ap (with_row_modes c.args.full.now c.args.user.now c.args.modes) (row_is _ _ found))) c.set_traps.ensures.ok

pub returns-clause-err : goal.returns-clause-err
returns-clause-err c =
    let found = row_found _ _ c.args.full.now _ c.self.view_is c.in-Some.ensures.value in
    let lent = c.get_mut.follows.holds c.set_traps.new.self in
    let is = written _ _ _ c.args.full.now _ c.self.view_is (lent.3 (found_some _ _ c.in-Some.ensures.value)).0 in
    on_err _ (λ e. is ∙ ap (map.insert c.args.self.now c.args.full.now) e ∙ insert_same _ _ _ found) c.set_traps.ensures.err
