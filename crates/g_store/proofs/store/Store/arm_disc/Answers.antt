use Rattle.g_store.proofs.ArmLemmas.{disc_armed}
use Rattle.g_store.proofs.store.Store.arm_disc.Goals as goal

pub returns-clause-same : goal.returns-clause-same
returns-clause-same g c = disc_armed c.args.self.now _ _ _ c.arm.new.self c.self.view_is c.arm.ensures.armed
