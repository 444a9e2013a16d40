use Rattle.std.specs.Prelude.{IfOk}
use Rattle.g_look.specs.Outlooks.{IsForeseenOn}
use Rattle.g_outlook.proofs.LookingLemmas.{looks, looks_not, of_mounted}
use Rattle.g_outlook.proofs.outlook.outlook_of.Goals as goal

pub returns-then-not-mount_all-clause-rack : goal.returns-then-not-mount_all-clause-rack
returns-then-not-mount_all-clause-rack g c = looks_not (g.T.Tapes.rack c.args.tapes.now) (g.T.Tapes.rack c.mount_all.new.tapes) (g.T.Tapes.rack c.unmount_all.new.tapes) c.mount_all.ensures.reels c.mount_all.ensures.counts _ (λ is. cc) c.unmount_all.ensures.reels c.unmount_all.ensures.counts c.unmount_all.ensures.unmounted

pub returns-clause-foreseen : goal.returns-clause-foreseen
returns-clause-foreseen g c = λ blocks told. of_mounted (g.T.Tapes.rack c.args.tapes.now) (g.T.Tapes.rack c.mount_all.new.tapes) (λ dumps. IfOk c.foresee_restore-outlook.result (IsForeseenOn blocks dumps)) c.mount_all.ensures.reels (c.foresee_restore-outlook.ensures.foreseen blocks told)

pub returns-clause-rack : goal.returns-clause-rack
returns-clause-rack g c = looks (g.T.Tapes.rack c.args.tapes.now) (g.T.Tapes.rack c.mount_all.new.tapes) (g.T.Tapes.rack c.unmount_all-2.new.tapes) c.mount_all.ensures.reels c.mount_all.ensures.counts _ _ c.foresee_restore-outlook.ensures.tapes c.unmount_all-2.ensures.reels c.unmount_all-2.ensures.counts c.unmount_all-2.ensures.unmounted
