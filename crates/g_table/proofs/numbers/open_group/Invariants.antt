use Rattle.std.proofs.Common.{length, ◌-◌, ◌≤◌, ◌<◌, ℕ, get_or}
use Rattle.g_table.proofs.numbers.open_group.Given as goal

abbrev pub invariant-loop-group : goal.invariant-loop-group
invariant-loop-group l = (l.group ≤ length l.used) × ((group : ℕ) → group < l.group → 32 ≤ get_or l.used group 0)

abbrev pub decreases-loop-group : goal.decreases-loop-group
decreases-loop-group l = length l.used - l.group
