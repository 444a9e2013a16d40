use Rattle.std.proofs.Common.{◌≡◌, ◌++◌, length}
use Rattle.g_dirs.proofs.copy_table.CopyTable.put_all.Given as goal

abbrev pub invariant-loop-copy : goal.invariant-loop-copy
invariant-loop-copy l = l.left.items ++ l.self ≡ l.fn.copies.items

abbrev pub decreases-loop-copy : goal.decreases-loop-copy
decreases-loop-copy l = length l.left.items
