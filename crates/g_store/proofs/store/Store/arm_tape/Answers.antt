use Rattle.g_store.proofs.ArmLemmas.{tape_armed}
use Rattle.g_store.proofs.store.Store.arm_tape.Goals as goal

pub returns-clause-same : goal.returns-clause-same
returns-clause-same g c = tape_armed c.args.self.now _ _ _ (g.T.Tapes.rack c.arm.new.self) c.self.view_is c.arm.ensures
