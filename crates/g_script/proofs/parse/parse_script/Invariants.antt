-- The items so far and the lines that are left are all lines.
use Rattle.std.proofs.Common.{length}
use Rattle.g_lines.specs.Lines.{lines_of}
use Rattle.g_script.proofs.parse.parse_script.Given as goal
use Rattle.g_script.proofs.ReadLemmas.{IsFront}

abbrev pub invariant-loop-line : goal.invariant-loop-line
invariant-loop-line l = IsFront (lines_of l.bytes) l.said l.lines l.before

abbrev pub decreases-loop-line : goal.decreases-loop-line
decreases-loop-line l = length l.lines
