use Rattle.std.proofs.Common.{◌≡◌, take}
use Rattle.g_duplex.specs.Pair.{lost_of}
use Rattle.g_duplex.proofs.places.lost_among.Given as goal

abbrev pub invariant-loop-i : goal.invariant-loop-i
invariant-loop-i g l = l.lost ≡ lost_of (take l.i (g.T.Tapes.rack l.rack).reels) (take l.i l.standings)
