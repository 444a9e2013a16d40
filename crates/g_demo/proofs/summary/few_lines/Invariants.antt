use Rattle.std.proofs.Common.{take, ◌≡◌}
use Rattle.g_demo.specs.Summary.{line_count}
use Rattle.g_demo.proofs.summary.few_lines.Given as goal

abbrev pub invariant-loop-byte : goal.invariant-loop-byte
invariant-loop-byte l = l.count ≡ line_count (take l.byte-index l.piece)
