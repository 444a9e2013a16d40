use Rattle.std.proofs.Common.{◌-◌, ◌≤◌, length}
use Rattle.g_blocks.specs.Flags.{AreSetBefore}
use Rattle.g_blocks.proofs.free.first_free.Given as goal

abbrev pub invariant-loop-place : goal.invariant-loop-place
invariant-loop-place l = AreSetBefore l.place l.taken × (l.from ≤ l.place)

abbrev pub decreases-loop-place : goal.decreases-loop-place
decreases-loop-place l = length l.taken - l.place
