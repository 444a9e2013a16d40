use Rattle.g_migrate.proofs.PlanLemmas.{HasTaken}
use Rattle.g_migrate.proofs.unjamming.take_first.Given as goal

abbrev pub invariant-loop-candidate : goal.invariant-loop-candidate
invariant-loop-candidate l = HasTaken l.candidates l.room l.need l.candidate-index l.taken l.reached
