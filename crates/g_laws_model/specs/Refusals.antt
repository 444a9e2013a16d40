-- Refusals as options, and events whose failed writes aren't refusals.
use Rattle.std.specs.Prelude.{◌≡◌, ◌⊎◌, ◌++◌, Bool, true, false, List, [], ◌∷◌, Option, Some, None, Result, Ok, Err, if◌then◌else◌}
use Rattle.g_plain.specs.declared.faults.StoreFault.{StoreFault}
use Rattle.g_plain.specs.declared.faults.StoreFault.TheVariants.{Stopped}
use Rattle.g_store_model.specs.State.{State}
use Rattle.g_store_model.specs.CallStep.{down}

-- The refusal, if the condition holds.
abbrev pub when : Bool → StoreFault → Option StoreFault
when is fault = if is then Some fault else None

-- The first refusal, if there is one, otherwise the second.
abbrev pub or_else : Option StoreFault → Option StoreFault → Option StoreFault
or_else (Some fault) later = Some fault
or_else None later = later

-- The first refusal in the list, if there is one.
abbrev pub first_of : List (Option StoreFault) → Option StoreFault
first_of [] = None
first_of (refusal ∷ later) = or_else refusal (first_of later)

-- The store is down, in one of these states.
abbrev pub IsCutAt : List State → State → Type 0
IsCutAt [] new = ⊥
IsCutAt (stage ∷ stages) new = (new ≡ down stage) ⊎ IsCutAt stages new

-- An event is refused, and changes nothing; or one of its writes fails, and the state is that before it, between two of its
-- commits, or after it; or it is done.
abbrev pub Goes : {A : Type 0} → Option StoreFault → Bool → A → State → List State → State → Result A StoreFault → State → Type 0
Goes (Some fault) cut reply before between after answer new = (answer ≡ Err fault) × (new ≡ before)
Goes None true reply before between after answer new = (answer ≡ Err Stopped) × IsCutAt (before ∷ between ++ after ∷ []) new
Goes None false reply before between after answer new = (answer ≡ Ok reply) × (new ≡ after)
