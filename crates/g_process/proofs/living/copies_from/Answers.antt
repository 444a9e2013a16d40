use Rattle.g_process.proofs.PlanLemmas.{copies_next}
use Rattle.g_process.proofs.WriteLemmas.{placed}
use Rattle.g_process.proofs.living.copies_from.Goals as goal

pub loop-version-preserved : goal.loop-version-preserved
loop-version-preserved c =
    let at = placed c.args.versions.now c.loop-version.version-index c.version-item.result c.loop-version-test.true c.version-item.is in
    copies_next c.args.serial c.args.first c.args.versions.now c.loop-version.version-index c.version-item.result _ _ _ _ at c.loop-version.invariant.0 c.loop-version.invariant.1 c.in-Ok.ensures.items c.blocks_for-at.ensures
