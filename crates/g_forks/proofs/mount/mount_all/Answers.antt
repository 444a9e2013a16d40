use Rattle.g_forks.proofs.MountLemmas.{mounts_more}
use Rattle.g_forks.proofs.mount.mount_all.Goals as goal

pub loop-i-preserved : goal.loop-i-preserved
loop-i-preserved g c =
    mounts_more (g.T.Tapes.rack c.args.tapes.now) (g.T.Tapes.rack c.loop-i.tapes) c.serial-serial.result c.mount-mounted.result (g.T.Tapes.rack c.mount-mounted.new.self) c.loop-i.invariant c.mount-mounted.ensures
