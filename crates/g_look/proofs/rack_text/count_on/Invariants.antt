use Rattle.std.proofs.Common.{◌≡◌, ◌≤◌, take}
use Rattle.g_look.specs.MemoryLines.{count_on}
use Rattle.g_look.proofs.rack_text.count_on.Given as goal

abbrev pub invariant-loop-one : goal.invariant-loop-one
invariant-loop-one l = (l.count ≡ count_on l.serial (take l.one-index l.found)) × (l.count ≤ l.one-index)
