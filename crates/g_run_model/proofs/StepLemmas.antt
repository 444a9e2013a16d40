-- Refusals of a step, by cases.
-- serves: AnswerLemmas, DumpedLemmas, EventToldLemmas, KeptDumpLemmas, LawLemmas, MountLemmas, ProcessedLemmas, ShortLemmas, ToldLemmas, TreeLemmas, and 1 more
use Rattle.std.proofs.Common.{◌≡◌, ℕ, List, Option, Some, None, refl, sym, ap, subst, inl, inr}
use Rattle.std.specs.Prelude.{◌≢◌, ◌⊎◌, Result, Ok, Err, option_map, MatchOption}
use Rattle.g_plain.specs.declared.calls.StoreCall.{StoreCall}
use Rattle.g_plain.specs.declared.calls.StoreReply.{StoreReply}
use Rattle.g_plain.specs.declared.faults.StoreFault.{StoreFault}
use Rattle.g_plain.specs.declared.faults.StoreFault.TheVariants.{Stopped}
use Rattle.g_store_model.specs.State.{State, Holding, Dumped}
use Rattle.g_plain.specs.PlainStep.{reply_to}
use Rattle.g_store_model.specs.CallStep.{CallStep, LeftByRefusal, Outcome, Planned, after_call, after_unjam, down, early, late, Cut, DiscRead, Plain, TapeRead}
use Rattle.g_store_model.specs.Laws.{tree_in}
use Rattle.g_store_model.specs.DumpSteps.{Event}
use Rattle.g_store_model.specs.Rising.{RestoreStep, Restores, StartStep, Starts, adopted, coming_up, dump_adopted, restore_early, restored}

pub tree_held : (s : State) (k : Holding) → s.holding ≡ Some k → tree_in s ≡ Some k.tree
tree_held s k held = ap (option_map (λ (x : Holding). x.tree)) held

one_fault : (f g : StoreFault) → (let one : Result StoreReply StoreFault = Err f in one ≡ Err g) → f ≡ g
one_fault f g e = cc

pub not_err : {A : Type 0} (reply : StoreReply) (f : StoreFault) → (let one : Result StoreReply StoreFault = Err f in one ≡ Ok reply) → A
not_err reply f e = absurd (let no : ⊥ = cc in no)

-- a refusal that isn't a stop left the state unchanged
pub left_same : (s : State) (k : Holding) (who : List ℕ) (call : StoreCall) (o : Outcome) (until : ℕ) (f : StoreFault) (new : State) → f ≢ Stopped → LeftByRefusal s k who call o until f new → new ≡ s
left_same s k who call o until Stopped new other left = absurd (other refl)
left_same s k who call o until f new other left = left

-- a refusal occurs before room is computed, or after it
pub refused : {P : Type 0} (Q : StoreFault → Type 0) (f : Option StoreFault) (fault : StoreFault) → MatchOption f P (λ g. (let one : Result StoreReply StoreFault = Err fault in one ≡ Err g) × Q g)
    → ((f ≡ None) × P) ⊎ ((f ≡ Some fault) × Q fault)
refused Q None fault step = inl (refl, step)
refused Q (Some g) fault step =
    let same : fault ≡ g = one_fault fault g step.0 in
    inr (ap Some (sym same), subst Q (sym same) step.1)

-- what a call leaves: if a property holds of the state before it and of that after it, of both when they are down, and of
-- the former with files taken off when it is down, then it holds for any answer
module _ (P : State → Type 0) (s : State) (k : Holding) (who : List ℕ) (call : StoreCall) (same : P s) (gone : P (down s)) (cut : (until : ℕ) → P (down (after_unjam s k who call until)))
    (after : (until : ℕ) → P (after_call s k who call until)) (after_gone : (until : ℕ) → P (down (after_call s k who call until))) where
  left_kept : (o : Outcome) (until : ℕ) (f : StoreFault) (new : State) → LeftByRefusal s k who call o until f new → P new
  left_kept o until Stopped new (inl is) = subst P (sym is) gone
  left_kept o until Stopped new (inr (inl (some, is))) = subst P (sym is) (cut until)
  left_kept o until Stopped new (inr (inr is)) = subst P (sym is) (after_gone until)
  left_kept o until f new is = subst P (sym is) same

  late_kept : (o : Outcome) (until : ℕ) (f : Option StoreFault) (answer : Result StoreReply StoreFault) (new : State)
      → MatchOption f ((answer ≡ Ok (reply_to k.tree who call)) × (new ≡ after_call s k who call until)) (λ fault. (answer ≡ Err fault) × LeftByRefusal s k who call o until fault new) → P new
  late_kept o until None answer new (ok, is) = subst P (sym is) (after until)
  late_kept o until (Some f) answer new (err, left) = left_kept o until f new left

  early_kept : (o : Outcome) (f : Option StoreFault) (answer : Result StoreReply StoreFault) (new : State)
      → MatchOption f (Planned s k who call o answer new) (λ fault. (answer ≡ Err fault) × (new ≡ s)) → P new
  early_kept o None answer new plan = late_kept o plan.until (late s k who call o plan.until) answer new plan.step
  early_kept o (Some f) answer new (err, is) = subst P (sym is) same

  pub call_kept : (o : Outcome) (answer : Result StoreReply StoreFault) (new : State) → CallStep s k who call o answer new → P new
  call_kept o answer new step = early_kept o (early s k who call o) answer new step

-- what an event leaves, and a line that brings the system up: the state before or that of the event, each of them up or
-- down
pub event_kept : {A : Type 0} (P : State → Type 0) (f : Option StoreFault) (reply : A) (s after : State) (r : Result A StoreFault) (new : State) → P s → P (down s) → P after → P (down after) → Event f reply s after r new → P new
event_kept P None reply s after r new same gone done done_gone (ok, is) = subst P (sym is) done
event_kept P (Some Stopped) reply s after r new same gone done done_gone (err, inl is) = subst P (sym is) gone
event_kept P (Some Stopped) reply s after r new same gone done done_gone (err, inr is) = subst P (sym is) done_gone
event_kept P (Some fault) reply s after r new same gone done done_gone (err, is) = subst P (sym is) same

module _ (P : State → Type 0) (s : State) (same : P s) (gone : P (down s)) where
  module _ (up : (k : Holding) → s.holding ≡ Some k → P (coming_up s (adopted (dump_adopted s k) k))) (up_gone : (k : Holding) → s.holding ≡ Some k → P (down (coming_up s (adopted (dump_adopted s k) k)))) where
    starts_kept : (h : Option Holding) (o : Outcome) (r : Result (Option ℕ) StoreFault) (new : State) → s.holding ≡ h → Starts s h o r new → P new
    starts_kept h DiscRead r new held (err, is) = subst P (sym is) same
    starts_kept None Plain r new held (err, is) = subst P (sym is) same
    starts_kept None TapeRead r new held (err, is) = subst P (sym is) same
    starts_kept None Cut r new held (err, is) = subst P (sym is) same
    starts_kept (Some k) Plain r new held event = event_kept P _ _ s _ r new same gone (up k held) (up_gone k held) event
    starts_kept (Some k) TapeRead r new held event = event_kept P _ _ s _ r new same gone (up k held) (up_gone k held) event
    starts_kept (Some k) Cut r new held event = event_kept P _ _ s _ r new same gone (up k held) (up_gone k held) event

    pub start_kept : (o : Outcome) (r : Result (Option ℕ) StoreFault) (new : State) → StartStep s o r new → P new
    start_kept o r new step = starts_kept s.holding o r new refl step

  module _ (up : (d : Dumped) → s.dumped ≡ Some d → P (coming_up s (restored d))) (up_gone : (d : Dumped) → s.dumped ≡ Some d → P (down (coming_up s (restored d)))) where
    restores_kept : (d : Option Dumped) (o : Outcome) (r : Result ℕ StoreFault) (new : State) → s.dumped ≡ d → Restores s d o r new → P new
    restores_kept None o r new has (lost, is) = subst P (sym is) same
    restores_kept (Some d) o r new has event = event_kept P _ _ s _ r new same gone (up d has) (up_gone d has) event

    restored_kept : (f : Option StoreFault) (o : Outcome) (r : Result ℕ StoreFault) (new : State) → MatchOption f (Restores s s.dumped o r new) (λ fault. (r ≡ Err fault) × (new ≡ s)) → P new
    restored_kept None o r new step = restores_kept s.dumped o r new refl step
    restored_kept (Some fault) o r new (err, is) = subst P (sym is) same

    pub restore_kept : (o : Outcome) (r : Result ℕ StoreFault) (new : State) → RestoreStep s o r new → P new
    restore_kept o r new step = restored_kept (restore_early s o) o r new step
