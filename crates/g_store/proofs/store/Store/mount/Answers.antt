use Rattle.g_store.proofs.TurnLemmas.{rack_mounts}
use Rattle.g_store.proofs.store.Store.mount.Goals as goal

pub invariant_of-self : goal.invariant_of-self
invariant_of-self g c =
    (rack_mounts c.args.serial c.args.self.now _ (g.T.Tapes.rack c.mount-answer.new.self) c.mount-answer.result c.rack_answer.result c.rack_answer.ensures c.self.view_is c.requires.running c.self.invariant c.mount-answer.ensures).event.keeps

pub returns : goal.returns
returns g c =
    rack_mounts c.args.serial c.args.self.now _ (g.T.Tapes.rack c.mount-answer.new.self) c.mount-answer.result c.rack_answer.result c.rack_answer.ensures c.self.view_is c.requires.running c.self.invariant c.mount-answer.ensures
