-- A call that may be done is done.
-- serves: calls_are_complete
use Rattle.std.proofs.Common.{◌≡◌, ℕ, List, Some, refl, sym, ◌∙◌, subst, inl, inr}
use Rattle.std.specs.Prelude.{◌⊎◌, Result, Ok, Err}
use Rattle.std.proofs.lemmas.Option.{same_Some}
use Rattle.g_name.specs.declared.full.Full.{Full}
use Rattle.g_plain.specs.declared.calls.StoreCall.{StoreCall}
use Rattle.g_plain.specs.declared.calls.StoreReply.{StoreReply}
use Rattle.g_plain.specs.declared.faults.StoreFault.{StoreFault}
use Rattle.g_plain.specs.declared.faults.StoreFault.TheVariants.{NoCopy, NoMemory, Stopped}
use Rattle.g_plain.specs.PlainStep.{plain_answer}
use Rattle.g_plain.specs.PlainTree.{Tree}
use Rattle.g_store_model.specs.State.{Holding, State}
use Rattle.g_store_model.specs.CallStep.{CallStep, Cut, DiscRead, Outcome, Plain, TapeRead}
use Rattle.g_store_model.specs.Laws.{GrantedIsDone}
use Rattle.g_store_meaning.specs.Answers.{Answers, Belongs, From, Leads, Raised, Steps, Told}
use Rattle.g_store_meaning.specs.Reading.{StandsForState}
use Rattle.g_store_meaning.specs.StoreInvariant.{StoreFacts}
use Rattle.g_laws_complete.specs.Completeness.{CallsAreComplete, IsAnswered, MayBeDone, NothingFailed}

module _ (complete : GrantedIsDone) (old new : StoreFacts) (who : List ℕ) (call : StoreCall) (none : NothingFailed old new) where
  plainly : (o : Outcome) → Raised o old new → o ≡ Plain
  plainly Plain raised = refl
  plainly DiscRead raised = absurd (none.disc_reads raised)
  plainly TapeRead raised = absurd (none.tape_reads raised)
  plainly Cut (inl raised) = absurd (none.disc_writes raised)
  plainly Cut (inr raised) = absurd (none.tape_writes raised)

  by_leads : (before : State) (k : Holding) (answer : Result StoreReply StoreFault) → before.holding ≡ Some k → MayBeDone before k who call → Leads before old new who call answer
      → answer ≡ plain_answer k.tree who call
  by_leads before k answer holds may leads =
      let same : leads.held ≡ k = same_Some leads.held k (sym leads.holds ∙ holds) in
      let step : CallStep before k who call Plain answer leads.after =
      subst (λ (o : Outcome). CallStep before k who call o answer leads.after) (plainly leads.outcome leads.raised)
      (subst (λ (h : Holding). CallStep before h who call leads.outcome answer leads.after) same leads.step) in
      complete before k who call may.until answer leads.after may.granted may.mounted may.room step

  by_steps : (before : State) (k : Holding) (answer : Result StoreReply StoreFault) → (answer ≡ Err Stopped → ⊥) → before.holding ≡ Some k → MayBeDone before k who call
      → Steps before old who call answer new → IsAnswered k.tree who call answer
  by_steps before k (Err NoMemory) never holds may steps = tt
  by_steps before k (Err (NoCopy full serial)) never holds may steps = tt
  by_steps before k (Err Stopped) never holds may steps = absurd (never refl)
  by_steps before k answer never holds may steps = by_leads before k answer holds may steps

  answered : (answer : Result StoreReply StoreFault) (s : State) (k : Holding) → Answers old who call answer new → (from : From s old who call answer new) → from.before.holding ≡ Some k
      → MayBeDone from.before k who call → IsAnswered k.tree who call answer
  answered answer s k answers from holds may = by_steps from.before k answer (λ is. none.disc_writes (answers.cause.disc.writes_rose is)) holds may from.steps

  -- no copy is lost where disc and rack belong together
  one_of_two : (tree : Tree) (answer : Result StoreReply StoreFault) → ((full : Full) (serial : ℕ) → answer ≡ Err (NoCopy full serial) → ⊥) → IsAnswered tree who call answer
      → (answer ≡ plain_answer tree who call) ⊎ (answer ≡ Err NoMemory)
  one_of_two tree (Err NoMemory) never is = inr refl
  one_of_two tree (Err (NoCopy full serial)) never is = absurd (never full serial refl)
  one_of_two tree answer never is = inl is

pub all_complete : GrantedIsDone → CallsAreComplete
all_complete complete = record {
  told = λ old new who call answer s k told belongs stands holds answers none may.
      let from = answers.step (λ _. belongs) s stands in
      let same : s ≡ from.before = sym (from.told told) in
      one_of_two complete old new who call none k.tree answer (answers.no_copy told belongs)
      (answered complete old new who call none answer s k answers from (subst (λ (x : State). x.holding ≡ Some k) same holds) (subst (λ (x : State). MayBeDone x k who call) same may));
  met = λ old new who call answer s given stands answers none.
      let from = answers.step given s stands in
      (from.before, record { stands = from.stands; told = from.told }, λ k holds may. answered complete old new who call none answer s k answers from holds may);
}
