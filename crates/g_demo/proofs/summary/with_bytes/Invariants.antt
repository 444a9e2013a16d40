use Rattle.std.proofs.Common.{take, ◌≡◌}
use Rattle.std.specs.List.{fold}
use Rattle.g_demo.specs.Summary.{folded}
use Rattle.g_demo.proofs.summary.with_bytes.Given as goal

abbrev pub invariant-loop-byte : goal.invariant-loop-byte
invariant-loop-byte l = l.number ≡ fold folded l.fn.so_far (take l.byte-index l.piece)
