-- The lines that were appended, and those that are left.
use Rattle.std.proofs.Common.{◌≡◌, ◌++◌, length}
use Rattle.std.specs.Prelude.{map}
use Rattle.g_lines.specs.Lines.{text_of}
use Rattle.g_monitor.specs.Listing.{shown_line, listed_lines}
use Rattle.g_monitor.proofs.listing.push_list.Given as goal

abbrev pub invariant-loop-line : goal.invariant-loop-line
invariant-loop-line l = l.text ++ text_of (map shown_line l.lines) ≡ l.fn.text ++ text_of (listed_lines l.bytes)

abbrev pub decreases-loop-line : goal.decreases-loop-line
decreases-loop-line l = length l.lines
