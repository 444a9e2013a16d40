use Rattle.std.proofs.Common.{◌≡◌, ◌-◌, ◌<◌, ◌≤◌, ℕ, Some, false, slice_get}
use Rattle.g_dirs.proofs.marks.Marks.next.Given as goal

abbrev pub invariant-loop-j : goal.invariant-loop-j
invariant-loop-j l = (l.fn.k ≤ l.j) × (l.j ≤ 1088) × ((i : ℕ) → l.fn.k ≤ i → i < l.j → slice_get l.self-inside.blocks.items i ≡ Some false)

abbrev pub decreases-loop-j : goal.decreases-loop-j
decreases-loop-j l = 1088 - l.j
