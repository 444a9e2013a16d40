use Rattle.g_restore.proofs.ReelLemmas.{ReadSoFar}
use Rattle.g_restore.proofs.dumps.read_rack.Given as goal

abbrev pub invariant-loop-i : goal.invariant-loop-i
invariant-loop-i g l = ReadSoFar l.i l.found.items (g.T.Tapes.rack l.initial.tapes) (g.T.Tapes.rack l.tapes)
