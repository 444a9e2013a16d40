use Rattle.g_look.proofs.PairLemmas.{ApartUpTo}
use Rattle.g_look.proofs.pairs.twice.Given as goal

abbrev pub invariant-loop-i : goal.invariant-loop-i
invariant-loop-i l = ApartUpTo l.dumps l.i
