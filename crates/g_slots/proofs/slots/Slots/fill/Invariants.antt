use Rattle.g_slots.proofs.Filling.{Filled}
use Rattle.g_slots.proofs.slots.Slots.fill.Given as goal

abbrev pub invariant-loop-k : goal.invariant-loop-k
invariant-loop-k g l = Filled l.self l.k l.image (g.D.Disc.state l.initial.disc) (g.D.Disc.state l.disc)
