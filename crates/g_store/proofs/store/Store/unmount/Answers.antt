use Rattle.std.proofs.Common.{refl, sym, ◌∙◌, subst}
use Rattle.g_store_meaning.specs.Answers.{IsStore}
use Rattle.g_store.proofs.TurnLemmas.{rack_unmounts, reel_busy}
use Rattle.g_store.proofs.store.Store.unmount.Goals as goal

pub invariant_of-self : goal.invariant_of-self
invariant_of-self g c =
    (rack_unmounts c.args.serial c.args.self.now _ (g.T.Tapes.rack c.unmount-answer.new.self) c.unmount-answer.result c.rack_answer.result c.rack_answer.ensures c.self.view_is c.requires.running c.self.invariant (sym c.is_busy.ensures ∙ c.if-is_busy.false) c.unmount-answer.ensures).event.keeps

pub returns-then-is_busy : goal.returns-then-is_busy
returns-then-is_busy g c =
    reel_busy c.args.serial c.args.self.now c.args.self.now refl c.requires.running (subst IsStore c.self.view_is c.self.invariant) (sym c.is_busy.ensures ∙ c.if-is_busy.true)

pub returns : goal.returns
returns g c =
    rack_unmounts c.args.serial c.args.self.now _ (g.T.Tapes.rack c.unmount-answer.new.self) c.unmount-answer.result c.rack_answer.result c.rack_answer.ensures c.self.view_is c.requires.running c.self.invariant (sym c.is_busy.ensures ∙ c.if-is_busy.false) c.unmount-answer.ensures
