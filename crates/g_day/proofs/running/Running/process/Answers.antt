use Rattle.std.proofs.Common.{◌∙◌, ap, subst, sym}
use Rattle.g_store_meaning.specs.StoreInvariant.{StoreFacts}
use Rattle.g_tape.specs.Rack.{AreReels}
use Rattle.g_store.specs.Processing.{StepsProcess}
use Rattle.g_day.specs.Box.{boxed}
use Rattle.g_day.proofs.running.Running.process.Goals as goal

pub returns-clause-step : goal.returns-clause-step
returns-clause-step g c =
    subst (λ (t : StoreFacts). StepsProcess c.args.serial t c.process.result c.process.new.self)
    (ap boxed (sym c.in-Some.is) ∙ ap boxed c.deref_mut.ensures.value ∙ c.self.view_is) c.process.ensures.step

pub returns-clause-reels : goal.returns-clause-reels
returns-clause-reels g c =
    subst (λ (t : StoreFacts). AreReels t.rack.reels)
    (ap boxed (sym c.in-Some.is) ∙ ap boxed c.deref_mut.ensures.value ∙ c.self.view_is) c.process.ensures.reels
