use Rattle.g_forks.proofs.HeldLemmas.{SoFar}
use Rattle.g_forks.proofs.held.dumps_in.Given as goal

abbrev pub invariant-loop-i : goal.invariant-loop-i
invariant-loop-i g l = SoFar l.i l.held.items (g.T.Tapes.rack l.initial.tapes) (g.T.Tapes.rack l.tapes)
