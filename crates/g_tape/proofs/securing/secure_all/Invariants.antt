use Rattle.g_tape.proofs.SecureLemmas.{SoFar}
use Rattle.g_tape.proofs.securing.secure_all.Given as goal

abbrev pub invariant-loop-i : goal.invariant-loop-i
invariant-loop-i g l = SoFar l.i (g.T.Tapes.rack l.initial.tapes) (g.T.Tapes.rack l.tapes)
