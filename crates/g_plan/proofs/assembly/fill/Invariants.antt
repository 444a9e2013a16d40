use Rattle.g_plan.specs.Laws.{size_or_none}
use Rattle.g_plan.proofs.FillLemmas.{FilledSoFar}
use Rattle.g_plan.proofs.assembly.fill.Given as goal

abbrev pub invariant-loop-k : goal.invariant-loop-k
invariant-loop-k l = FilledSoFar l.source l.size l.k l.image
