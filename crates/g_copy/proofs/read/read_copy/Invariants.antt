use Rattle.g_copy.proofs.Reading.{HasRead}
use Rattle.g_copy.proofs.read.read_copy.Given as goal

abbrev pub invariant-loop-place : goal.invariant-loop-place
invariant-loop-place g l =
    HasRead l.place-index l.copy.blocks l.copy.len l.bytes.items (g.D.Disc.state l.initial.disc) (g.D.Disc.state l.disc)
