-- The reels unmounted so far.
use Rattle.g_outlook.proofs.UnmountLemmas.{HasUnmounted}
use Rattle.g_outlook.proofs.mounts.unmount_all.Given as goal

abbrev pub invariant-loop-i : goal.invariant-loop-i
invariant-loop-i g l = HasUnmounted (g.T.Tapes.rack l.fn.tapes) (g.T.Tapes.rack l.tapes) l.i
