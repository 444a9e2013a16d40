use Rattle.g_shelf.proofs.LastLemmas.{AreUp}
use Rattle.g_shelf.proofs.last.first_unmounted.Given as goal

abbrev pub invariant-loop-i : goal.invariant-loop-i
invariant-loop-i g l = AreUp l.i (g.T.Tapes.rack l.tapes)
