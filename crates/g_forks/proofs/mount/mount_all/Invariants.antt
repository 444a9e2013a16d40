-- The reels mounted so far.
use Rattle.g_forks.proofs.MountLemmas.{OnlyMounts}
use Rattle.g_forks.proofs.mount.mount_all.Given as goal

abbrev pub invariant-loop-i : goal.invariant-loop-i
invariant-loop-i g l = OnlyMounts (g.T.Tapes.rack l.fn.tapes) (g.T.Tapes.rack l.tapes)
