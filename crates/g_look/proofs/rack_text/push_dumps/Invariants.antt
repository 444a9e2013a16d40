use Rattle.std.proofs.Common.{◌≡◌, ◌++◌, drop}
use Rattle.g_lines.specs.Lines.{text_of}
use Rattle.g_look.specs.MemoryLines.{lines_on}
use Rattle.g_look.proofs.rack_text.push_dumps.Given as goal

abbrev pub invariant-loop-one : goal.invariant-loop-one
invariant-loop-one l = l.text ++ text_of (lines_on l.serial (drop l.one-index l.found)) ≡ l.fn.text ++ text_of (lines_on l.serial l.found)
