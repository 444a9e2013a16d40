use Rattle.std.proofs.Common.{length}
use Rattle.g_lines.specs.Lines.{lines_of}
use Rattle.g_macro.proofs.SpanLemmas.{IsSpanSoFar}
use Rattle.g_macro.proofs.level.span_of.Given as goal

abbrev pub invariant-loop-line : goal.invariant-loop-line
invariant-loop-line l = IsSpanSoFar (lines_of l.left) l.lines l.count l.document

abbrev pub decreases-loop-line : goal.decreases-loop-line
decreases-loop-line l = length l.lines
