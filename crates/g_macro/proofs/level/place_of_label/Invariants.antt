use Rattle.std.proofs.Common.{length}
use Rattle.g_lines.specs.Lines.{lines_of}
use Rattle.g_macro.proofs.LabelLemmas.{IsLabelSoFar}
use Rattle.g_macro.proofs.level.place_of_label.Given as goal

abbrev pub invariant-loop-line : goal.invariant-loop-line
invariant-loop-line l = IsLabelSoFar l.label (lines_of l.text) l.lines l.count l.bytes

abbrev pub decreases-loop-line : goal.decreases-loop-line
decreases-loop-line l = length l.lines
