use Rattle.g_duplex.proofs.CompareLemmas.{SameSoFar}
use Rattle.g_duplex.proofs.comparing.first_difference.Given as goal

abbrev pub invariant-loop-k : goal.invariant-loop-k
invariant-loop-k g l = SameSoFar l.serial l.k (g.T.Tapes.rack l.initial.one) (g.T.Tapes.rack l.initial.other) (g.T.Tapes.rack l.one) (g.T.Tapes.rack l.other)
