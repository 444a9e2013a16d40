use Rattle.std.proofs.Common.{◌≡◌, false, is_some, true, sym, ◌∙◌, ap, subst}
use Rattle.g_store_model.specs.CallStep.{down}
use Rattle.g_store_model.specs.State.{State}
use Rattle.g_store_meaning.specs.Meaning.{told_reels}
use Rattle.g_store_meaning.specs.Reading.{DevicesStandFor, StandsForState}
use Rattle.g_store_meaning.specs.StoreInvariant.{StoreFacts}
use Rattle.g_day.specs.Box.{boxed}
use Rattle.g_day.proofs.running.Running.into_devices.Goals as goal

pub returns-clause-down : goal.returns-clause-down
returns-clause-down g c =
    subst (λ (t : StoreFacts). is_some t.online.disc.held ≡ true → t.spent ≡ false → (s : State) → StandsForState t s
    → DevicesStandFor t.online.disc.size t.online.disc.held (told_reels t.rack) (down s))
    (ap boxed (sym c.in-Some.is) ∙ ap boxed c.into_inner.ensures ∙ c.self.view_is) c.into_devices.ensures.down
