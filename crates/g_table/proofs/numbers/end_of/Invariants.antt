use Rattle.std.proofs.Common.{◌≡◌, ◌≤◌, [], drop}
use Rattle.g_table.specs.Table.{present}
use Rattle.g_table.proofs.numbers.end_of.Given as goal

abbrev pub invariant-loop-end : goal.invariant-loop-end
invariant-loop-end g l = (l.end ≤ l.known) × (present (drop l.end l.places) ≡ [])

abbrev pub decreases-loop-end : goal.decreases-loop-end
decreases-loop-end g l = l.end
