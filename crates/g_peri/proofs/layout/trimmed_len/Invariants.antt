use Rattle.std.proofs.Common.{◌≡◌, ◌≤◌, length, take}
use Rattle.g_peri.specs.Layout.{trimmed}
use Rattle.g_peri.proofs.layout.trimmed_len.Given as goal

abbrev pub invariant-loop-end : goal.invariant-loop-end
invariant-loop-end l = (l.end ≤ length l.bytes) × (trimmed (take l.end l.bytes) ≡ trimmed l.bytes)

abbrev pub decreases-loop-end : goal.decreases-loop-end
decreases-loop-end l = l.end
