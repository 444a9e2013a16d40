use Rattle.std.proofs.Common.{length, ◌-◌, ◌≤◌}
use Rattle.g_table.specs.Table.{AreTaken}
use Rattle.g_table.proofs.numbers.first_gap.Given as goal

abbrev pub invariant-loop-place : goal.invariant-loop-place
invariant-loop-place g l = (l.from ≤ l.place) × (l.place ≤ length l.places) × AreTaken l.from l.place l.places

abbrev pub decreases-loop-place : goal.decreases-loop-place
decreases-loop-place g l = length l.places - l.place
