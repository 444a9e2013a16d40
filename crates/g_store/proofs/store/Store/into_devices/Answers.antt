use Rattle.std.proofs.Common.{subst}
use Rattle.g_store_meaning.specs.Answers.{IsStore}
use Rattle.g_store.proofs.ArmLemmas.{down_stands}
use Rattle.g_store.proofs.store.Store.into_devices.Goals as goal

pub returns-clause-down : goal.returns-clause-down
returns-clause-down g c = down_stands c.args.self (subst IsStore c.self.view_is c.self.invariant)
