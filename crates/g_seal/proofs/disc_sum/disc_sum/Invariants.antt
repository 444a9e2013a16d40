use Rattle.g_seal.proofs.DiscLemmas.{HasSummed}
use Rattle.g_seal.proofs.disc_sum.disc_sum.Given as goal

abbrev pub invariant-loop-place : goal.invariant-loop-place
invariant-loop-place g l =
    HasSummed l.place-index l.copy.blocks l.copy.len l.left l.sum (g.D.Disc.state l.initial.disc) (g.D.Disc.state l.disc)
