use Rattle.std.proofs.Common.{length}
use Rattle.g_lines.specs.Lines.{lines_of}
use Rattle.g_plan.proofs.SourceLemmas.{ReadSoFar}
use Rattle.g_plan.proofs.reader.read_source.Given as goal

abbrev pub invariant-loop-line : goal.invariant-loop-line
invariant-loop-line l = ReadSoFar (lines_of l.text) l.lines l.reader

abbrev pub decreases-loop-line : goal.decreases-loop-line
decreases-loop-line l = length l.lines
