-- A call of a turn on a store whose devices expose their contents and belong together, as an event of a run.
-- serves: crates above
use Rattle.std.proofs.Common.{◌≡◌, ℕ, List, [], Err, refl}
use Rattle.g_plain.specs.Programs.{Answer, IsAnswer}
use Rattle.g_plain.specs.declared.calls.StoreCall.{StoreCall}
use Rattle.g_plain.specs.declared.faults.StoreFault.TheVariants.{NoMemory}
use Rattle.g_store_meaning.specs.Answers.{Answers, Belongs, HasCause, Told}
use Rattle.g_store_meaning.specs.Reading.{StandsForState}
use Rattle.g_store_meaning.specs.StoreInvariant.{StoreFacts}
use Rattle.g_store_model.specs.CallStep.{Outcome, Plain}
use Rattle.g_store_model.specs.State.{State}
use Rattle.g_run_model.specs.Devices.{Devices}
use Rattle.g_run_model.specs.Events.{IsCall}
use Rattle.g_run_model.specs.Moves.{EventCounted}
use Rattle.g_run_model.proofs.EventToldLemmas.{told_own, OutcomeTold}
use Rattle.g_run_model.proofs.StoreLemmas.{answer_event, memory_keeps}

-- the store exposes its contents, belongs together, and represents the state
pub record StoreIsNow (s : StoreFacts) (t : State) : Type 0 where
  pub told : Told s
  pub belongs : Belongs s
  pub stands : StandsForState s t

abbrev pub devices_of : StoreFacts → Devices
devices_of s = record { disc = s.online.disc; rack = s.rack }

-- what the devices count in an event follows from its cause and its outcome
abbrev pub CausesCount : Type 0
CausesCount = (old new : StoreFacts) (answer : Answer) (o : Outcome) → HasCause old new answer → OutcomeTold o answer → EventCounted o [] [] (devices_of old) (devices_of new)

module _ (counts : CausesCount) (who : List ℕ) where
  pub store_leads : (s : StoreFacts) (t : State) (call : StoreCall) (answer : Answer) (next : StoreFacts) → StoreIsNow s t → Answers s who call answer next → IsAnswer answer
      → (o : Outcome) × (t2 : State) × IsCall t who call o answer t2 × StoreIsNow next t2 × EventCounted o [] [] (devices_of s) (devices_of next)
  store_leads s t call answer next now is real =
      let e = answer_event s next who call now.told now.belongs t now.stands answer is real in
      (e.outcome, e.after, e.is, record { told = is.told now.told; belongs = is.belongs now.told now.belongs; stands = e.stands }, counts s next answer e.outcome is.cause e.told)

  pub store_forgets : (s : StoreFacts) (t : State) (call : StoreCall) (next : StoreFacts) → StoreIsNow s t → Answers s who call (Err NoMemory) next
      → StoreIsNow next t × EventCounted Plain [] [] (devices_of s) (devices_of next)
  store_forgets s t call next now is = (
    record { told = is.told now.told; belongs = is.belongs now.told now.belongs; stands = memory_keeps s next who call now.told now.belongs t now.stands is },
    counts s next (Err NoMemory) Plain is.cause (told_own NoMemory (Err NoMemory) tt refl),
  )
