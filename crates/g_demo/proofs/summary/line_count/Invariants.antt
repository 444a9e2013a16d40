use Rattle.std.proofs.Common.{length, ◌+◌, ◌≡◌}
use Rattle.g_demo.specs.Summary.{line_count}
use Rattle.g_demo.proofs.summary.line_count.Given as goal

abbrev pub invariant-loop-rest : goal.invariant-loop-rest
invariant-loop-rest l = l.count + line_count l.rest ≡ line_count l.piece

abbrev pub decreases-loop-rest : goal.decreases-loop-rest
decreases-loop-rest l = length l.rest
