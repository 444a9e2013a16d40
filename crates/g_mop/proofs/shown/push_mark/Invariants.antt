use Rattle.std.proofs.Common.{List, ℕ, ◌++◌, ◌≡◌, length}
use Rattle.std.specs.List.{flat_map}
use Rattle.g_lines.specs.Lines.{ended}
use Rattle.g_mop.specs.TerminalLines.{mark_of, shown_at}
use Rattle.g_mop.proofs.shown.push_mark.Given as goal

-- the lines appended so far and the lines that are left are all of them
abbrev pub invariant-loop-line : goal.invariant-loop-line
invariant-loop-line l = l.text ++ flat_map (λ (line : List ℕ). ended (mark_of l.terminal ++ line)) l.lines ≡ l.fn.text ++ shown_at l.terminal l.added

abbrev pub decreases-loop-line : goal.decreases-loop-line
decreases-loop-line l = length l.lines
