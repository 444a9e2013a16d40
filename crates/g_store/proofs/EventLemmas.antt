-- An event that is refused, and changes nothing.
-- serves: MigratedLemmas, OpenedLemmas, ProcessedStepLemmas, SteppedLemmas, TurnLemmas
use Rattle.std.proofs.Common.{◌≡◌, ◌≢◌, ℕ, false, Some, Result, Err, refl, sym, ◌∙◌, ap, arith, subst}
use Rattle.std.proofs.lemmas.Bool.{false≢true}
use Rattle.g_plain.specs.declared.faults.StoreFault.{StoreFault}
use Rattle.g_plain.specs.declared.faults.StoreFault.TheVariants.{Stopped}
use Rattle.g_store_model.specs.State.{Holding, State}
use Rattle.g_store_model.specs.CallStep.{Outcome, Plain}
use Rattle.g_store_meaning.specs.Answers.{IsStore, WroteCommits, Raised}
use Rattle.g_store_meaning.specs.Meaning.{told_reels}
use Rattle.g_store_meaning.specs.Reading.{StandsForState, View, state_up}
use Rattle.g_store_meaning.specs.StoreInvariant.{StoreFacts}
use Rattle.g_laws_store.specs.Rooms.{held_in}
use Rattle.g_store.specs.Events.{AnswersEvent, IsAnsweredBy, LeadsBy, StepsBy, WroteBy}
use Rattle.g_store_calls.proofs.SeenLemmas.{Seen, seen}
use Rattle.g_store_calls.proofs.SurvivalLemmas.{stays_durable}

-- what the state holds
pub held_by : (s : StoreFacts) (u : State) (is : Seen s u) → u.holding ≡ Some (held_in is.view s.online)
held_by s u is = ap (λ (t : State). t.holding) is.state_is

pub none_written : (s : StoreFacts) → WroteCommits 0 s s
none_written s = record { blocks = 0; commits = (refl, refl); writes = record { exactly = λ less. omega arith } }

-- an event that led from the state in which it was checked to this one
pub leads_at : {A : Type 0} (by : State → Holding → Outcome → Result A StoreFault → State → Type 0) (old new : StoreFacts) (answer : Result A StoreFault) (s u : State) (k : Holding) → s.holding ≡ Some k → u ≡ s → (end : State) (out : Outcome)
    → StandsForState new end → Raised out old new → by s k out answer end → LeadsBy by u old new answer
leads_at by old new answer s u k holds same end out left raised step = record {
  after = end;
  left = left;
  held = k;
  holds = ap (λ (x : State). x.holding) same ∙ holds;
  outcome = out;
  raised = raised;
  step = subst (λ (x : State). by x k out answer end) (sym same) step;
}

module _ {A : Type 0} (by : State → Holding → Outcome → Result A StoreFault → State → Type 0) (count : A → ℕ) (s : StoreFacts) (unspent : s.spent ≡ false) where
  pub leads_same : (fault : StoreFault) (u : State) (here : StandsForState s u)
      → ((v : View) → (let t = state_up v (told_reels s.rack) s.online s.dump in by t (held_in v s.online) Plain (Err fault) t)) → LeadsBy by u s s (Err fault)
  leads_same fault u here step =
      let is = seen s u unspent here in record {
        after = u;
        left = here;
        held = held_in is.view s.online;
        holds = held_by s u is;
        outcome = Plain;
        raised = tt;
        step = subst (λ (t : State). by t (held_in is.view s.online) Plain (Err fault) t) (sym is.state_is) (step is.view);
      }

  pub refused : (fault : StoreFault) → fault ≢ Stopped → IsStore s → ((u : State) → StandsForState s u → StepsBy by u s (Err fault) s) → WroteBy count s (Err fault) s
      → AnswersEvent by count s (Err fault) s
  refused fault other keeps steps wrote = record {
    step = λ told belongs u here. steps u here;
    wrote = wrote;
    keeps = keeps;
    told = λ told. told;
    belongs = λ told was. was;
    spent = (λ is. absurd (false≢true (sym unspent ∙ is)), λ is. absurd (other (let same : fault ≡ Stopped = cc in same)));
    survives = stays_durable (IsAnsweredBy by s (Err fault)) s s unspent (λ durable. durable);
  }
