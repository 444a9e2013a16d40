use Rattle.g_look.proofs.PairLemmas.{RiseUpTo}
use Rattle.g_look.proofs.pairs.falling.Given as goal

abbrev pub invariant-loop-i : goal.invariant-loop-i
invariant-loop-i l = RiseUpTo l.dumps l.i
