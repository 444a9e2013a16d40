-- There is a box, or one is made.
use Rattle.std.proofs.Common.{sym, ◌∙◌}
use Rattle.g_tree.proofs.RoomLemmas.{some_room}
use Rattle.g_tree.proofs.tree.changes.make_room.Goals as goal

pub returns-then-is_some-clause-ok : goal.returns-then-is_some-clause-ok
returns-then-is_some-clause-ok c = some_room c.args.room.now (sym c.is_some.ensures ∙ c.if-is_some.true)
