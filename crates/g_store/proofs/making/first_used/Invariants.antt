use Rattle.g_store.proofs.EmptyLemmas.{AreEmpty}
use Rattle.g_store.proofs.making.first_used.Given as goal

abbrev pub invariant-loop-i : goal.invariant-loop-i
invariant-loop-i g l = AreEmpty l.i (g.T.Tapes.rack l.tapes)
