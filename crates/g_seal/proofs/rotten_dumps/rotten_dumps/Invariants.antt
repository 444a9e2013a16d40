use Rattle.g_seal.proofs.RottenLemmas.{RottenDumps}
use Rattle.g_seal.proofs.rotten_dumps.rotten_dumps.Given as goal

abbrev pub invariant-loop-dump : goal.invariant-loop-dump
invariant-loop-dump g l = RottenDumps l.dumps l.dump-index l.rotten.items (g.T.Tapes.rack l.initial.tapes) (g.T.Tapes.rack l.tapes)
