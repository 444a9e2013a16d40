use Rattle.std.proofs.Common.{◌≡◌, take}
use Rattle.g_duplex.specs.Places.{standings_by}
use Rattle.g_duplex.proofs.places.standings_by.Given as goal

abbrev pub invariant-loop-i : goal.invariant-loop-i
invariant-loop-i g l = l.standings ≡ standings_by l.lost (take l.i (g.T.Tapes.rack l.rack).reels)
