use Rattle.g_shelf.proofs.LastLemmas.{SeenSoFar}
use Rattle.g_shelf.proofs.last.last_dump.Given as goal

abbrev pub invariant-loop-i : goal.invariant-loop-i
invariant-loop-i g l = SeenSoFar l.i l.last (g.T.Tapes.rack l.initial.tapes) (g.T.Tapes.rack l.tapes)
