-- A step whose answer doesn't show its outcome is the step in which no device failed.
-- serves: EventToldLemmas
use Rattle.std.proofs.Common.{◌≡◌, ℕ, List, [], ◌∷◌, Option, Some, None, refl, sym, ◌∙◌, ap, subst}
use Rattle.std.specs.Prelude.{◌≢◌, Bool, true, false, Result, Err, MatchOption, not, nat_lt, is_some, unwrap_or, ◌&&◌, ◌||◌}
use Rattle.g_plain.specs.declared.calls.StoreCall.{StoreCall}
use Rattle.g_plain.specs.declared.calls.StoreReply.{StoreReply}
use Rattle.g_plain.specs.declared.faults.StoreFault.{StoreFault}
use Rattle.g_plain.specs.declared.faults.StoreFault.TheVariants.{DiscFull, WaitTape, DiscReadFault, TapeReadFault, Stopped}
use Rattle.g_plain.specs.PlainStep.{first_fault, fault_of}
use Rattle.g_store_model.specs.State.{State, Holding, is_mounted}
use Rattle.g_store_model.specs.CallStep.{Outcome, Plain, CallStep, Planned, LeftByRefusal, early, late, is_offline, reel_of, is_tape_read, is_disc_read, is_cut, wants_bytes, writes, brings_now, len_of, version_read, need, room_until}
use Rattle.g_run_model.proofs.StepLemmas.{left_same}

abbrev pub Reply : Type 0
Reply = Result StoreReply StoreFault

match_to : {P P' : Type 0} {Q Q' : StoreFault → Type 0} (f g : Option StoreFault) → (f ≡ None → g ≡ None) → ((fault : StoreFault) → f ≡ Some fault → Q fault → (g ≡ Some fault) × Q' fault) → (P → P') → MatchOption f P Q → MatchOption g P' Q'
match_to {P' = P'} {Q' = Q'} None g none some keeps m = subst (λ (o : Option StoreFault). MatchOption o P' Q') (sym (none refl)) (keeps m)
match_to {P' = P'} {Q' = Q'} (Some fault) g none some keeps m = let both = some fault refl m in subst (λ (o : Option StoreFault). MatchOption o P' Q') (sym both.0) both.1

no_third : (p q b : Bool) (f g h : StoreFault) → first_fault ((p, f) ∷ (q, g) ∷ (b, h) ∷ []) ≡ None → first_fault ((p, f) ∷ (q, g) ∷ (false, h) ∷ []) ≡ None
no_third true q b f g h e = absurd (let no : ⊥ = cc in no)
no_third false true b f g h e = absurd (let no : ⊥ = cc in no)
no_third false false b f g h e = refl

one : (f g : StoreFault) → (let o : Option StoreFault = Some f in o ≡ Some g) → f ≡ g
one f g e = cc

other_third : (p q b : Bool) (f g h fault : StoreFault) → fault ≢ h → first_fault ((p, f) ∷ (q, g) ∷ (b, h) ∷ []) ≡ Some fault → first_fault ((p, f) ∷ (q, g) ∷ (false, h) ∷ []) ≡ Some fault
other_third true q b f g h fault other e = e
other_third false true b f g h fault other e = e
other_third false false true f g h fault other e = absurd (other (sym (one h fault e)))
other_third false false false f g h fault other e = e

no_two : (p b c : Bool) (f g h : StoreFault) → first_fault ((p, f) ∷ (b, g) ∷ (c, h) ∷ []) ≡ None → first_fault ((p, f) ∷ (false, g) ∷ (false, h) ∷ []) ≡ None
no_two true b c f g h e = absurd (let no : ⊥ = cc in no)
no_two false b c f g h e = refl

other_two : (p b c : Bool) (f g h fault : StoreFault) → fault ≢ g → fault ≢ h → first_fault ((p, f) ∷ (b, g) ∷ (c, h) ∷ []) ≡ Some fault → first_fault ((p, f) ∷ (false, g) ∷ (false, h) ∷ []) ≡ Some fault
other_two true b c f g h fault no_g no_h e = e
other_two false true c f g h fault no_g no_h e = absurd (no_g (sym (one g fault e)))
other_two false false true f g h fault no_g no_h e = absurd (no_h (sym (one h fault e)))
other_two false false false f g h fault no_g no_h e = e

module _ (s : State) (k : Holding) (who : List ℕ) (call : StoreCall) (o : Outcome) where
  early_none_too : early s k who call o ≡ None → early s k who call Plain ≡ None
  early_none_too e = no_third (is_some (fault_of k.tree who call)) (is_offline s k who call && not (is_mounted s (reel_of s k who call))) (is_tape_read o && is_offline s k who call)
      (unwrap_or (fault_of k.tree who call) Stopped) (WaitTape (reel_of s k who call)) TapeReadFault e

  early_too : (fault : StoreFault) → fault ≢ TapeReadFault → early s k who call o ≡ Some fault → early s k who call Plain ≡ Some fault
  early_too fault other e = other_third (is_some (fault_of k.tree who call)) (is_offline s k who call && not (is_mounted s (reel_of s k who call))) (is_tape_read o && is_offline s k who call)
      (unwrap_or (fault_of k.tree who call) Stopped) (WaitTape (reel_of s k who call)) TapeReadFault fault other e

  late_none_too : (until : ℕ) → late s k who call o until ≡ None → late s k who call Plain until ≡ None
  late_none_too until e = no_two (nat_lt (room_until s k who call until) (need s k who call))
      (is_disc_read o && wants_bytes call && not (is_offline s k who call) && nat_lt 0 (len_of s k who call (version_read k.tree who call))) (is_cut o && (writes call || brings_now s k who call))
      (DiscFull (need s k who call) (room_until s k who call until)) DiscReadFault Stopped e

  late_too : (until : ℕ) (fault : StoreFault) → fault ≢ DiscReadFault → fault ≢ Stopped → late s k who call o until ≡ Some fault → late s k who call Plain until ≡ Some fault
  late_too until fault no_disc no_stop e = other_two (nat_lt (room_until s k who call until) (need s k who call))
      (is_disc_read o && wants_bytes call && not (is_offline s k who call) && nat_lt 0 (len_of s k who call (version_read k.tree who call))) (is_cut o && (writes call || brings_now s k who call))
      (DiscFull (need s k who call) (room_until s k who call until)) DiscReadFault Stopped fault no_disc no_stop e

same_answer : (answer : Reply) (f g : StoreFault) → (let r : Reply = Err f in answer ≡ r) → f ≡ g → (let r : Reply = Err g in answer ≡ r)
same_answer answer f g is same = is ∙ ap (λ (x : StoreFault). let r : Reply = Err x in r) same

left_by : (s : State) (k : Holding) (who : List ℕ) (call : StoreCall) (until : ℕ) (new : State) (fault : StoreFault) → fault ≢ Stopped → new ≡ s → LeftByRefusal s k who call Plain until fault new
left_by s k who call until new Stopped other is = absurd (other refl)
left_by s k who call until new fault other is = is

-- AN ANSWER that no device causes is that of the step in which no device failed
pub plain_too : (s : State) (k : Holding) (who : List ℕ) (call : StoreCall) (o : Outcome) (answer : Reply) (new : State)
    → ((let e : Reply = Err DiscReadFault in answer ≡ e) → ⊥) → ((let e : Reply = Err TapeReadFault in answer ≡ e) → ⊥) → ((let e : Reply = Err Stopped in answer ≡ e) → ⊥)
    → CallStep s k who call o answer new → CallStep s k who call Plain answer new
plain_too s k who call o answer new no_disc no_tape no_stop step =
    match_to (early s k who call o) (early s k who call Plain) (early_none_too s k who call o)
    (λ fault e q. (early_too s k who call o fault (λ same. no_tape (same_answer answer fault TapeReadFault q.0 same)) e, q)) planned step
  where
    planned : Planned s k who call o answer new → Planned s k who call Plain answer new
    planned plan = record {
      until = plan.until;
      unjam = plan.unjam;
      step = match_to (late s k who call o plan.until) (late s k who call Plain plan.until) (late_none_too s k who call o plan.until)
          (λ fault e q. (
            late_too s k who call o plan.until fault (λ same. no_disc (same_answer answer fault DiscReadFault q.0 same)) (λ same. no_stop (same_answer answer fault Stopped q.0 same)) e,
            (
              q.0,
              left_by s k who call plan.until new fault (λ same. no_stop (same_answer answer fault Stopped q.0 same))
                  (left_same s k who call o plan.until fault new (λ same. no_stop (same_answer answer fault Stopped q.0 same)) q.1),
            ),
          ))
          (λ done. done) plan.step;
    }
