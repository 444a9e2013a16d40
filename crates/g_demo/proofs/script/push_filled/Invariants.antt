use Rattle.std.proofs.Common.{replicate, ◌++◌, ◌≡◌}
use Rattle.g_demo.specs.Script.{filled_line}
use Rattle.g_lines.specs.Lines.{text_of}
use Rattle.g_demo.proofs.script.push_filled.Given as goal

abbrev pub invariant-loop : goal.invariant-loop
invariant-loop l = l.text ≡ l.fn.text ++ text_of (replicate l.counter (filled_line l.round))
