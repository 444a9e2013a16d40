-- Only reads, and the lines of the serials so far.
use Rattle.std.proofs.Common.{◌≡◌, ◌++◌, take}
use Rattle.std.specs.List.{flat_map}
use Rattle.g_lines.specs.Lines.{text_of}
use Rattle.g_tape.specs.Reads.{OnlyReads, blocks_of}
use Rattle.g_twins.specs.Twins.{AreExposed, serials, twin_lines}
use Rattle.g_twins.proofs.comparing.push_first.Given as goal

abbrev pub invariant-loop-i : goal.invariant-loop-i
invariant-loop-i g l =
    let p = g.T.Tapes.rack l.initial.first in
    let q = g.T.Tapes.rack l.initial.second in
    OnlyReads p (g.T.Tapes.rack l.first) × OnlyReads q (g.T.Tapes.rack l.second)
    × (AreExposed p → AreExposed q → l.text ≡ l.fn.text ++ text_of (flat_map (λ s. twin_lines s (blocks_of s p) (blocks_of s q)) (take l.i (serials p))))
