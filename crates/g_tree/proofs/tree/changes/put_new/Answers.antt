-- There is a box.
use Rattle.std.proofs.Common.{sym, ◌∙◌}
use Rattle.g_tree.proofs.RoomLemmas.{no_room}
use Rattle.g_tree.proofs.tree.changes.put_new.Goals as goal

pub unreachable-requires : goal.unreachable-requires
unreachable-requires c = no_room c.args.room.now c.requires.room (sym c.take.ensures.value ∙ c.in_default.is)
