use Rattle.std.proofs.Common.{◌≡◌, drop}
use Rattle.g_process.specs.Lists.{notes_at}
use Rattle.g_process.proofs.shelves.notes_of.Given as goal

abbrev pub invariant-loop-list : goal.invariant-loop-list
invariant-loop-list l = notes_at l.serial l.lists ≡ notes_at l.serial (drop l.list-index l.lists)
