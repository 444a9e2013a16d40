use Rattle.std.proofs.Common.{◌≡◌, length}
use Rattle.g_table.specs.Table.{present}
use Rattle.g_table.proofs.iter.IterDoubleEndedIterator.next_back.Given as goal

abbrev pub invariant-loop-last : goal.invariant-loop-last
invariant-loop-last g l = present l.self-inside.places.now ≡ l.fn.self

abbrev pub decreases-loop-last : goal.decreases-loop-last
decreases-loop-last g l = length l.self-inside.places.now
