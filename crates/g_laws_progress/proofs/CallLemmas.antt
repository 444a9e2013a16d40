-- A call is answered, of every state that holds a filestore.
-- serves: GoesLemmas
use Rattle.std.proofs.Common.{◌≡◌, ℕ, zero, suc, ◌+◌, ◌<◌, ◌≤◌, ◌==◌, List, [], ◌∷◌, Option, Some, None, refl, sym, ◌∙◌, ap, subst, inl, inr, arith, eqb-true}
use Rattle.std.specs.Prelude.{◌⊎◌, ◌&&◌, Bool, true, false, cond, nat_lt, not, Ok, Err, MatchOption, is_some, unwrap_or}
use Rattle.std.proofs.lemmas.Bool.{false≢true}
use Rattle.std.specs.Cmp.{unsigned_tied}
use Rattle.std.specs.Ordering.{nat_cmp}
use Rattle.std.specs.FinMap.{FinMap, entries, find, get, get-entries}
use Rattle.g_plain.proofs.StepAnswers.{is_plain, own_fault}
use Rattle.g_plain.specs.Programs.{Answer, IsAnswer, is_memory}
use Rattle.g_plain.specs.PlainStep.{fault_of, first_fault, reply_to}
use Rattle.g_plain.specs.declared.calls.StoreCall.{StoreCall}
use Rattle.g_plain.specs.declared.faults.StoreFault.{StoreFault}
use Rattle.g_plain.specs.declared.faults.StoreFault.TheVariants.{DiscFull, DiscReadFault, NoMemory, Stopped, TapeReadFault, WaitTape}
use Rattle.g_store_model.specs.CallStep.{CallStep, IsUnjam, LeftByRefusal, Outcome, Plain, Planned, after_call, down, early, is_offline, late, need, reel_of, room_until}
use Rattle.g_store_model.specs.State.{Holding, Place, State, is_candidate, is_mounted, place_at}
use Rattle.g_laws_progress.proofs.ChoiceLemmas.{order}

-- THE LEAST NUMBER that is enough, or none below
module _ (f : ℕ → ℕ) (need : ℕ) where
  abbrev pub IsLeast : ℕ → Type 0
  IsLeast u = (need ≤ f u) × ((lower : ℕ) → lower < u → f lower < need)

  abbrev pub NoneBelow : ℕ → Type 0
  NoneBelow n = (lower : ℕ) → lower < n → f lower < need

  at_last : (n lower : ℕ) → NoneBelow n → f n < need → lower < suc n → (lower < n) ⊎ ((lower ≡ n) ⊎ (n < lower)) → f lower < need
  at_last n lower none last less (inl lesser) = none lower lesser
  at_last n lower none last less (inr (inl same)) = subst (λ (m : ℕ). f m < need) (sym same) last
  at_last n lower none last less (inr (inr more)) = absurd (let no : ⊥ = omega (arith, less, more) in no)

  pub least_of : (n : ℕ) → ((u : ℕ) × IsLeast u) ⊎ NoneBelow n
  least_of zero = inr (λ lower less. absurd (let no : ⊥ = omega (arith, less) in no))
  least_of (suc n) = by (least_of n)
    where
      by_last : NoneBelow n → (f n < need) ⊎ ((f n ≡ need) ⊎ (need < f n)) → ((u : ℕ) × IsLeast u) ⊎ NoneBelow (suc n)
      by_last none (inl short) = inr (λ lower less. at_last n lower none short less (order lower n))
      by_last none (inr (inl just)) = inl (n, (omega (arith, just), none))
      by_last none (inr (inr more)) = inl (n, (omega (arith, more), none))

      by : ((u : ℕ) × IsLeast u) ⊎ NoneBelow n → ((u : ℕ) × IsLeast u) ⊎ NoneBelow (suc n)
      by (inl found) = inl found
      by (inr none) = by_last none (order (f n) need)

-- a number above all keys
abbrev above : List (ℕ × Place) → ℕ
above [] = 0
above (e ∷ es) = (e.0 + 1) + above es

above_found : (q : ℕ) (es : List (ℕ × Place)) → is_some (find nat_cmp q es) ≡ true → q < above es
above_found q [] found = absurd (false≢true found)
above_found q (e ∷ es) found =
    by (q == e.0) refl (ap (λ (b : Bool). is_some (cond b (Some e.1) (find nat_cmp q es))) (sym (unsigned_tied q e.0)) ∙ found) (λ h. above_found q es h)
  where
    by : (same : Bool) → (q == e.0) ≡ same → is_some (cond same (Some e.1) (find nat_cmp q es)) ≡ true → (is_some (find nat_cmp q es) ≡ true → q < above es) → q < (e.0 + 1) + above es
    by true is found rest = let at : q ≡ e.0 = eqb-true q e.0 is in omega (arith, at)
    by false is found rest = let more = rest found in omega (arith, more)

candidate_there : (p : Option Place) → is_candidate (unwrap_or p (record { online = true; copy = None })) ≡ true → is_some p ≡ true
candidate_there None e = absurd (false≢true e)
candidate_there (Some p) e = refl

candidates_below : (places : FinMap nat_cmp Place) (stamp : ℕ) → is_candidate (place_at places stamp) ≡ true → stamp < above (entries places)
candidates_below places stamp is = above_found stamp (entries places) (ap is_some (sym (get-entries places stamp)) ∙ candidate_there (get places stamp) is)

module _ (s : State) (k : Holding) (who : List ℕ) (call : StoreCall) where
  unjam : (until : ℕ) × IsUnjam s k who call until
  unjam = by (least_of (room_until s k who call) (need s k who call) (above (entries k.places)))
    where
      by : ((u : ℕ) × IsLeast (room_until s k who call) (need s k who call) u) ⊎ NoneBelow (room_until s k who call) (need s k who call) (above (entries k.places)) → (until : ℕ) × IsUnjam s k who call until
      by (inl (u, (enough, lower))) = (u, record { enough = inl enough; least = lower })
      by (inr none) = (above (entries k.places), record { enough = inr (candidates_below k.places); least = none })

  left_some : (o : Outcome) (until : ℕ) (fault : StoreFault) → (new : State) × LeftByRefusal s k who call o until fault new
  left_some o until Stopped = (down s, inl refl)
  left_some o until fault = (s, refl)

not_memory : (f : StoreFault) → (f ≡ NoMemory → ⊥) → is_memory f ≡ false
not_memory NoMemory isnt = absurd (isnt refl)
not_memory f isnt = refl

one_fault : (f g : StoreFault) → (let one : Option StoreFault = Some f in one ≡ Some g) → f ≡ g
one_fault f g e = cc

plain_memory : is_plain NoMemory ≡ true → ⊥
plain_memory e = false≢true e

early_answer : (s : State) (k : Holding) (who : List ℕ) (call : StoreCall) (f : Option StoreFault) (a b : Bool) (serial : ℕ) (fault : StoreFault) → fault_of k.tree who call ≡ f
    → first_fault ((is_some f, unwrap_or f Stopped) ∷ (a, WaitTape serial) ∷ (b, TapeReadFault) ∷ []) ≡ Some fault → is_memory fault ≡ false
early_answer s k who call (Some g) a b serial fault is e =
    ap is_memory (sym (one_fault g fault e)) ∙ not_memory g (λ same. plain_memory (subst (λ (x : StoreFault). is_plain x ≡ true) same (own_fault k.tree who call g g (sym is) refl)))
early_answer s k who call None true b serial fault is e = ap is_memory (sym (one_fault (WaitTape serial) fault e))
early_answer s k who call None false true serial fault is e = ap is_memory (sym (one_fault TapeReadFault fault e))
early_answer s k who call None false false serial fault is e = absurd (let no : ⊥ = cc in no)

late_answer : (a b c : Bool) (n r : ℕ) (fault : StoreFault) → first_fault ((a, DiscFull n r) ∷ (b, DiscReadFault) ∷ (c, Stopped) ∷ []) ≡ Some fault → is_memory fault ≡ false
late_answer true b c n r fault e = ap is_memory (sym (one_fault (DiscFull n r) fault e))
late_answer false true c n r fault e = ap is_memory (sym (one_fault DiscReadFault fault e))
late_answer false false true n r fault e = ap is_memory (sym (one_fault Stopped fault e))
late_answer false false false n r fault e = absurd (let no : ⊥ = cc in no)

-- A CALL in which no device fails
module _ (s : State) (k : Holding) (who : List ℕ) (call : StoreCall) where
  abbrev Late : ℕ → Option StoreFault → Type 0
  Late until f = (answer : Answer) × (new : State)
      × MatchOption f ((answer ≡ Ok (reply_to k.tree who call)) × (new ≡ after_call s k who call until)) (λ fault. (answer ≡ Err fault) × LeftByRefusal s k who call Plain until fault new)
      × IsAnswer answer

  by_late : (until : ℕ) (f : Option StoreFault) → late s k who call Plain until ≡ f → Late until f
  by_late until None is = (Ok (reply_to k.tree who call), after_call s k who call until, (refl, refl), tt)
  by_late until (Some fault) is =
      let left = left_some s k who call Plain until fault in
      (Err fault, left.0, (refl, left.1), late_answer (nat_lt (room_until s k who call until) (need s k who call)) false false (need s k who call) (room_until s k who call until) fault is)

  abbrev Early : Option StoreFault → Type 0
  Early f = (answer : Answer) × (new : State) × MatchOption f (Planned s k who call Plain answer new) (λ fault. (answer ≡ Err fault) × (new ≡ s)) × IsAnswer answer

  by_early : (f : Option StoreFault) → early s k who call Plain ≡ f → Early f
  by_early None is =
      let plan = unjam s k who call in
      let done = by_late plan.0 (late s k who call Plain plan.0) refl in
      (done.0, done.1, record { until = plan.0; unjam = plan.1; step = done.2 }, done.3)
  by_early (Some fault) is = (Err fault, s, (refl, refl), early_answer s k who call (fault_of k.tree who call) (is_offline s k who call && not (is_mounted s (reel_of s k who call))) false (reel_of s k who call) fault refl is)

  pub call_some : (answer : Answer) × (new : State) × CallStep s k who call Plain answer new × IsAnswer answer
  call_some = by_early (early s k who call Plain) refl
