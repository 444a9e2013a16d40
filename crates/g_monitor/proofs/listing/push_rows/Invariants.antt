-- The files that were appended, and those that are left.
use Rattle.std.proofs.Common.{◌≡◌, ◌++◌, drop}
use Rattle.std.specs.Prelude.{map}
use Rattle.g_lines.specs.Lines.{text_of}
use Rattle.g_monitor.specs.Listing.{row_line}
use Rattle.g_monitor.proofs.listing.push_rows.Given as goal

abbrev pub invariant-loop-row : goal.invariant-loop-row
invariant-loop-row l = l.text ++ text_of (map row_line (drop l.row-index l.rows)) ≡ l.fn.text ++ text_of (map row_line l.rows)
