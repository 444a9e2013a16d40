use Rattle.g_copy.proofs.Writing.{Written}
use Rattle.g_copy.proofs.write.write_copy.Given as goal

abbrev pub invariant-loop-i : goal.invariant-loop-i
invariant-loop-i g l = Written l.i l.places l.bytes (g.D.Disc.state l.initial.disc) (g.D.Disc.state l.disc)
