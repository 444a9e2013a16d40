use Rattle.std.proofs.Common.{◌≡◌, drop, length}
use Rattle.std.specs.List.{list_any}
use Rattle.g_lines.specs.Lines.{lines_of}
use Rattle.g_macro.specs.Levels.{is_closing}
use Rattle.g_macro.proofs.level.is_closed.Given as goal

abbrev pub invariant-loop-line : goal.invariant-loop-line
invariant-loop-line l = list_any is_closing (drop 1 (lines_of l.left)) ≡ list_any is_closing l.lines

abbrev pub decreases-loop-line : goal.decreases-loop-line
decreases-loop-line l = length l.lines
