use Rattle.std.proofs.Common.{◌<◌, ◌≤◌, arith, length}
use Rattle.g_outlook.proofs.UnmountLemmas.{all_down, none_yet, one_more_down, still_there}
use Rattle.g_outlook.proofs.mounts.unmount_all.Goals as goal

pub serial-serial-requires : goal.serial-serial-requires
serial-serial-requires g c = let many = still_there (g.T.Tapes.rack c.args.tapes.now) (g.T.Tapes.rack c.loop-i.tapes) _ c.loop-i.invariant in omega arith

pub loop-i-init : goal.loop-i-init
loop-i-init g c = none_yet _

pub loop-i-preserved : goal.loop-i-preserved
loop-i-preserved g c =
    one_more_down (g.T.Tapes.rack c.args.tapes.now) (g.T.Tapes.rack c.loop-i.tapes) _ c.serial-serial.result c.loop-i.invariant c.serial-serial.ensures c.unmount-unmounted.result (g.T.Tapes.rack c.unmount-unmounted.new.self) c.unmount-unmounted.ensures

pub returns-clause-unmounted : goal.returns-clause-unmounted
returns-clause-unmounted g c = all_down _ _ _ c.loop-i.invariant (omega arith)
