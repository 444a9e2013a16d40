use Rattle.g_incr.proofs.TapeLemmas.{HaveRead}
use Rattle.g_incr.proofs.tape.read_blocks.Given as goal

abbrev pub invariant-loop-k : goal.invariant-loop-k
invariant-loop-k g l = HaveRead l.serial l.from l.k l.blocks.items (g.T.Tapes.rack l.initial.tapes) (g.T.Tapes.rack l.tapes)
