use Rattle.std.proofs.Common.{◌++◌, ◌≡◌}
use Rattle.g_demo.specs.Script.{behind_rounds, rounds_lines}
use Rattle.g_lines.specs.Lines.{text_of}
use Rattle.g_demo.proofs.script.push_rounds.Given as goal

abbrev pub invariant-loop-i : goal.invariant-loop-i
invariant-loop-i l =
    (l.text ≡ l.fn.text ++ text_of (rounds_lines l.number l.i)) × (l.draws.state ≡ behind_rounds l.number l.i)
