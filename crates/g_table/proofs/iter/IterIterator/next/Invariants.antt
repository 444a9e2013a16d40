use Rattle.std.proofs.Common.{◌≡◌, length}
use Rattle.g_table.specs.Table.{present}
use Rattle.g_table.proofs.iter.IterIterator.next.Given as goal

abbrev pub invariant-loop-first : goal.invariant-loop-first
invariant-loop-first g l = present l.self-inside.places.now ≡ l.fn.self

abbrev pub decreases-loop-first : goal.decreases-loop-first
decreases-loop-first g l = length l.self-inside.places.now
