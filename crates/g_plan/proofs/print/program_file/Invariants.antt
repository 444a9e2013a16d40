use Rattle.g_plan.proofs.PrintLemmas.{FileSoFar}
use Rattle.g_plan.proofs.print.program_file.Given as goal

abbrev pub invariant-loop-place : goal.invariant-loop-place
invariant-loop-place l = FileSoFar l.size l.image l.file l.place
