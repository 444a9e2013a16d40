use Rattle.g_duplex.proofs.CopyLemmas.{CopiedSoFar}
use Rattle.g_duplex.proofs.copying.copy_reel.Given as goal

abbrev pub invariant-loop-k : goal.invariant-loop-k
invariant-loop-k g l = CopiedSoFar l.serial l.k (g.T.Tapes.rack l.initial.from) (g.T.Tapes.rack l.initial.to) (g.T.Tapes.rack l.from) (g.T.Tapes.rack l.to)
