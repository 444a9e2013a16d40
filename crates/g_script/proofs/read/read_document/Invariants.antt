-- The good lines so far and those that are left are all lines.
use Rattle.std.proofs.Common.{length}
use Rattle.g_script.proofs.DocumentLemmas.{IsUpTo}
use Rattle.g_script.proofs.read.read_document.Given as goal

abbrev pub invariant-loop-line : goal.invariant-loop-line
invariant-loop-line l = IsUpTo l.fn.lines l.lines l.count l.bytes

abbrev pub decreases-loop-line : goal.decreases-loop-line
decreases-loop-line l = length l.lines
