use Rattle.g_seal.proofs.ReelLemmas.{HasSummed}
use Rattle.g_seal.proofs.reel_sum.sum_from.Given as goal

abbrev pub invariant-loop-k : goal.invariant-loop-k
invariant-loop-k g l = HasSummed l.serial l.first l.k l.len l.left l.sum (g.T.Tapes.rack l.initial.tapes) (g.T.Tapes.rack l.tapes)
