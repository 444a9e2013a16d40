-- How a store answers a call, as an event of a run.
-- serves: StoreTurnLemmas
use Rattle.std.proofs.Common.{◌≡◌, ℕ, List, Err, refl, sym, subst}
use Rattle.std.proofs.lemmas.Bool.{false≢true}
use Rattle.g_name.specs.declared.full.Full.{Full}
use Rattle.g_plain.specs.Programs.{Answer, IsAnswer}
use Rattle.g_plain.specs.declared.calls.StoreCall.{StoreCall}
use Rattle.g_plain.specs.declared.faults.StoreFault.TheVariants.{NoCopy, NoMemory, Stopped}
use Rattle.g_store_meaning.specs.Answers.{Answers, Belongs, From, Leads, Steps, Told}
use Rattle.g_store_meaning.specs.Reading.{StandsForState}
use Rattle.g_store_meaning.specs.StoreInvariant.{StoreFacts}
use Rattle.g_store_model.specs.CallStep.{Outcome}
use Rattle.g_store_model.specs.State.{State}
use Rattle.g_run_model.specs.Events.{IsCall}
use Rattle.g_run_model.proofs.EventToldLemmas.{call_told, OutcomeTold}

-- the call was an event from this state, and the store represents the state after it
pub record IsEvent (t : State) (who : List ℕ) (call : StoreCall) (answer : Answer) (new : StoreFacts) : Type 0 where
  pub outcome : Outcome
  pub after : State
  pub is : IsCall t who call outcome answer after
  pub told : OutcomeTold outcome answer
  pub stands : StandsForState new after

event_of : (t before : State) (old new : StoreFacts) (who : List ℕ) (call : StoreCall) (answer : Answer) → before ≡ t → Leads before old new who call answer → IsEvent t who call answer new
event_of t before old new who call answer same leads =
    let by = call_told before leads.held who call leads.outcome answer leads.after leads.step in
    let step : IsCall before who call by.0 answer leads.after = (leads.held, leads.holds, by.1, by.2.told) in
    record { outcome = by.0; after = leads.after; is = subst (λ (x : State). IsCall x who call by.0 answer leads.after) same step; told = by.2; stands = leads.left }

steps_event : (t before : State) (old new : StoreFacts) (who : List ℕ) (call : StoreCall) (answer : Answer) → before ≡ t → Told old → ((full : Full) (serial : ℕ) → answer ≡ Err (NoCopy full serial) → ⊥) → IsAnswer answer
    → Steps before old who call answer new → IsEvent t who call answer new
steps_event t before old new who call (Err NoMemory) same told none real steps = absurd (false≢true (sym real))
steps_event t before old new who call (Err (NoCopy full serial)) same told none real steps = absurd (none full serial refl)
steps_event t before old new who call (Err Stopped) same told none real steps = event_of t before old new who call (Err Stopped) same (steps told)
steps_event t before old new who call answer same told none real steps = event_of t before old new who call answer same steps

module _ (old new : StoreFacts) (who : List ℕ) (call : StoreCall) (told : Told old) (belongs : Belongs old) (t : State) (stands : StandsForState old t) where
  -- an answer is an event
  pub answer_event : (answer : Answer) → Answers old who call answer new → IsAnswer answer → IsEvent t who call answer new
  answer_event answer is real =
      let from : From t old who call answer new = is.step (λ x. belongs) t stands in
      steps_event t from.before old new who call answer (from.told told) told (is.no_copy told belongs) real from.steps

  -- running out of memory leaves the state unchanged
  pub memory_keeps : Answers old who call (Err NoMemory) new → StandsForState new t
  memory_keeps is =
      let from : From t old who call (Err NoMemory) new = is.step (λ x. belongs) t stands in
      subst (λ (x : State). StandsForState new x) (from.told told) from.steps
