use Rattle.std.proofs.Common.{take}
use Rattle.g_process.specs.Releases.{AreReleased, AreReleasedDurably, taken}
use Rattle.g_process.proofs.release.release.Given as goal

abbrev pub invariant-loop-list : goal.invariant-loop-list
invariant-loop-list g l = record {
  done : AreReleased (taken l.serial (take l.list-index l.lists)) (g.T.Tapes.rack l.initial.tapes) (g.T.Tapes.rack l.tapes);
  durably : AreReleasedDurably (taken l.serial (take l.list-index l.lists)) (g.T.Tapes.rack l.initial.tapes) (g.T.Tapes.rack l.tapes);
}
