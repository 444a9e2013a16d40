use Rattle.g_restore.proofs.gather.gather_by_user.Given as goal
use Rattle.g_restore.proofs.GatherLemmas.{SoFar}

abbrev pub invariant-loop-user : goal.invariant-loop-user
invariant-loop-user l = SoFar l.found l.users l.next l.user-index l.files.items
