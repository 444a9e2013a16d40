-- The lines that were appended, and those that are left.
use Rattle.std.proofs.Common.{◌≡◌, ◌++◌, length}
use Rattle.std.specs.List.{flat_map}
use Rattle.g_laws_sessions.specs.Asked.{own_line}
use Rattle.g_lines.specs.Lines.{lines_of}
use Rattle.g_answers.proofs.help.push_own_lines.Given as goal

abbrev pub invariant-loop-line : goal.invariant-loop-line
invariant-loop-line l = l.text ++ flat_map own_line l.lines ≡ l.fn.text ++ flat_map own_line (lines_of l.what)

abbrev pub decreases-loop-line : goal.decreases-loop-line
decreases-loop-line l = length l.lines
