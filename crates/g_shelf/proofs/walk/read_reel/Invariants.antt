use Rattle.std.proofs.Common.{◌-◌}
use Rattle.g_shelf.proofs.WalkLemmas.{Walked}
use Rattle.g_shelf.proofs.walk.read_reel.Given as goal

abbrev pub invariant-loop-dir : goal.invariant-loop-dir
invariant-loop-dir g l = Walked g.K.OfDump.is_of l.serial l.at l.least l.fn.kept.items l.kept.items (g.T.Tapes.rack l.initial.tapes) (g.T.Tapes.rack l.tapes)

abbrev pub decreases-loop-dir : goal.decreases-loop-dir
decreases-loop-dir g l = 65536 - l.at
