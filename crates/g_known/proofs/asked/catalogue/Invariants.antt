use Rattle.g_known.proofs.KnownLemmas.{ListedSoFar}
use Rattle.g_known.proofs.asked.catalogue.Given as goal

abbrev pub invariant-loop-i : goal.invariant-loop-i
invariant-loop-i g l = ListedSoFar l.i l.lists.items (g.T.Tapes.rack l.initial.tapes) (g.T.Tapes.rack l.tapes)
