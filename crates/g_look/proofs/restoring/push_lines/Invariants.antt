use Rattle.std.proofs.Common.{◌≡◌, ◌++◌, drop}
use Rattle.std.specs.List.{flat_map}
use Rattle.g_lines.specs.Lines.{text_of}
use Rattle.g_look.specs.Numbers.{dumped_line, lines_at}
use Rattle.g_look.proofs.restoring.push_lines.Given as goal

abbrev pub invariant-loop-number : goal.invariant-loop-number
invariant-loop-number l = l.text ++ text_of (flat_map (lines_at (dumped_line l.tree.users) l.tree.files) (drop l.number-index l.numbers)) ≡ l.fn.text ++ text_of (flat_map (lines_at (dumped_line l.tree.users) l.tree.files) l.numbers)
