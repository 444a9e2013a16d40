use Rattle.std.proofs.Common.{length}
use Rattle.g_plan.proofs.PutLemmas.{PutSoFar}
use Rattle.g_plan.proofs.image.Image.put_chars.Given as goal

abbrev pub invariant-loop-rest : goal.invariant-loop-rest
invariant-loop-rest l = PutSoFar l.start l.text l.fn.self l.self l.place l.rest

abbrev pub decreases-loop-rest : goal.decreases-loop-rest
decreases-loop-rest l = length l.rest
