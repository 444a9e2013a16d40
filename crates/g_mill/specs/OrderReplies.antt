-- The results of calls that execute an order.
use Rattle.std.specs.Prelude.{⊤, ◌≡◌, ◌≢◌, ◌<◌, ◌^◌, ℕ, List, Option, Some, None}
use Rattle.g_mill.specs.declared.event.Event.{Event}
use Rattle.g_mill.specs.declared.event.Event.TheVariants.{Ran}
use Rattle.g_mill.specs.declared.step.PlainOutcome.{PlainOutcome}
use Rattle.g_mill.specs.declared.step.PlainOutcome.TheVariants as quick
use Rattle.g_mill.specs.Machine.{Machine, following, going_to, onward}
use Rattle.g_mill.specs.Effect.{Outcome}

-- The event and the program that the order leaves, or, if it is illegal, no event and the program unchanged.
abbrev pub Does : Option Event → Machine → Machine → Outcome → Type 0
Does None old new outcome = (outcome ≡ None) × (new ≡ old)
Does (Some event) old new outcome = outcome ≡ Some (new, event)

-- The order isn't one whose event is Ran.
abbrev pub TellsMore : Outcome → Type 0
TellsMore None = ⊤
TellsMore (Some both) = both.1 ≢ Ran

-- As `Does`, for a call that executes only orders whose event is Ran. It may leave an order with another event to another call, with the program
-- unchanged. The program's own next address isn't used: the order is at `at`, for which `outcome` is given, and the call returns where the program
-- continues.
abbrev pub DoesQuick : PlainOutcome → ℕ → Machine → Machine → Outcome → Type 0
DoesQuick quick.Ran at old new outcome = outcome ≡ Some (going_to new (following at), Ran)
DoesQuick (quick.Jumped next) at old new outcome = (outcome ≡ Some (going_to new next, Ran)) × (next < 2 ^ 15)
DoesQuick (quick.Passed to) at old new outcome = outcome ≡ Some (going_to new (following at), Ran)
DoesQuick quick.Illegal at old new outcome = (outcome ≡ None) × (new ≡ old)
DoesQuick quick.NeedsStep at old new outcome = (new ≡ old) × TellsMore outcome

-- The text, with the program continuing after the order; or, if there is none, the program unchanged.
abbrev pub TellsText : Option (List ℕ) → Machine → Machine → Option (List ℕ) → Type 0
TellsText None old new text = (text ≡ None) × (new ≡ old)
TellsText (Some told) old new text = (text ≡ Some told) × (new ≡ onward old)
