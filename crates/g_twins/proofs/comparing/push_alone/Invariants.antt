-- The lines of the serials so far.
use Rattle.std.proofs.Common.{◌≡◌, ◌++◌, take}
use Rattle.std.specs.List.{flat_map}
use Rattle.g_lines.specs.Lines.{text_of}
use Rattle.g_tape.specs.Reads.{blocks_of}
use Rattle.g_twins.specs.Twins.{AreExposed, alone_lines, serials}
use Rattle.g_twins.proofs.comparing.push_alone.Given as goal

abbrev pub invariant-loop-i : goal.invariant-loop-i
invariant-loop-i g l =
    AreExposed (g.T.Tapes.rack l.first) → l.text ≡ l.fn.text ++ text_of (flat_map (λ s. alone_lines s (blocks_of s (g.T.Tapes.rack l.first))) (take l.i (serials (g.T.Tapes.rack l.second))))
