-- How a call is answered: as on the plain tree, or by a device.
-- serves: LawLemmas, TreeLemmas, crates above
use Rattle.std.proofs.Common.{◌≡◌, ℕ, List, [], ◌∷◌, Option, Some, None, refl, sym, ◌∙◌, ap, subst, inl, inr}
use Rattle.std.specs.Prelude.{◌≢◌, ◌⊎◌, Bool, true, false, not, Result, Ok, Err, is_some, unwrap_or, ◌&&◌}
use Rattle.g_plain.specs.declared.calls.StoreCall.{StoreCall}
use Rattle.g_plain.specs.declared.calls.StoreReply.{StoreReply}
use Rattle.g_plain.specs.declared.faults.StoreFault.{StoreFault}
use Rattle.g_plain.specs.declared.faults.StoreFault.TheVariants.{DiscFull, DiscReadFault, TapeReadFault, WaitTape, Stopped}
use Rattle.g_plain.specs.PlainTree.{Tree}
use Rattle.g_plain.specs.PlainStep.{first_fault, fault_of, plain_tree, reply_to, tree_after}
use Rattle.g_store_model.specs.State.{State, Holding, is_mounted}
use Rattle.g_store_model.specs.CallStep.{Outcome, CallStep, Planned, LeftByRefusal, early, late, is_offline, is_tape_read, reel_of}
use Rattle.g_store_model.specs.Laws.{tree_in, AnswersPlainly, RefusalsKeep, StopsLeave}
use Rattle.g_plain.specs.PlainAnswers.{PlainOrDevice, IsDeviceRefusal, IsStop}
use Rattle.g_run_model.proofs.StepLemmas.{refused, not_err, tree_held}

-- THE GROUND of the first law: a refusal is the plain step's, or a device's, or a stop
abbrev pub RefusalsArePlain : Type 0
RefusalsArePlain = (s : State) (k : Holding) (who : List ℕ) (call : StoreCall) (o : Outcome) (fault : StoreFault) (new : State) → CallStep s k who call o (Err fault) new
    → (fault_of k.tree who call ≡ Some fault) ⊎ (IsDeviceRefusal (Err fault) ⊎ (fault ≡ Stopped))

is_device : (f g : StoreFault) → (let one : Option StoreFault = Some f in one ≡ Some g) → IsDeviceRefusal (Err f) → IsDeviceRefusal (Err g)
is_device f g e device = subst (λ (x : StoreFault). IsDeviceRefusal (Err x)) (the_one f g e) device
  where
    the_one : (f g : StoreFault) → (let one : Option StoreFault = Some f in one ≡ Some g) → f ≡ g
    the_one f g e = cc

early_plain : (f : Option StoreFault) (a b : Bool) (serial : ℕ) (fault : StoreFault) → first_fault ((is_some f, unwrap_or f Stopped) ∷ (a, WaitTape serial) ∷ (b, TapeReadFault) ∷ []) ≡ Some fault
    → (f ≡ Some fault) ⊎ IsDeviceRefusal (Err fault)
early_plain (Some g) a b serial fault e = inl e
early_plain None true b serial fault e = inr (is_device (WaitTape serial) fault e tt)
early_plain None false true serial fault e = inr (is_device TapeReadFault fault e tt)
early_plain None false false serial fault e = absurd cc

late_device : (a b c : Bool) (n r : ℕ) (fault : StoreFault) → first_fault ((a, DiscFull n r) ∷ (b, DiscReadFault) ∷ (c, Stopped) ∷ []) ≡ Some fault
    → IsDeviceRefusal (Err fault) ⊎ (fault ≡ Stopped)
late_device true b c n r fault e = inl (is_device (DiscFull n r) fault e tt)
late_device false true c n r fault e = inl (is_device DiscReadFault fault e tt)
late_device false false true n r fault e = inr cc
late_device false false false n r fault e = absurd cc

-- A REFUSAL is the plain step's, or a device's, or a stop
pub refusals_are : RefusalsArePlain
refusals_are s k who call o fault new step = by_early (refused (λ g. new ≡ s) (early s k who call o) fault step)
  where
    by_late : {B : Type 0} (plan : Planned s k who call o (Err fault) new)
        → (((late s k who call o plan.until ≡ None) × ((let one : Result StoreReply StoreFault = Err fault in one ≡ Ok (reply_to k.tree who call)) × B)) ⊎ ((late s k who call o plan.until ≡ Some fault) × LeftByRefusal s k who call o plan.until fault new))
        → IsDeviceRefusal (Err fault) ⊎ (fault ≡ Stopped)
    by_late plan (inl (none, (e, is))) = not_err (reply_to k.tree who call) fault e
    by_late plan (inr (some, left)) = late_device _ _ _ _ _ fault some

    by_early : ((early s k who call o ≡ None) × Planned s k who call o (Err fault) new) ⊎ ((early s k who call o ≡ Some fault) × (new ≡ s)) → (fault_of k.tree who call ≡ Some fault) ⊎ (IsDeviceRefusal (Err fault) ⊎ (fault ≡ Stopped))
    by_early (inl (none, plan)) = inr (by_late plan (refused (λ g. LeftByRefusal s k who call o plan.until g new) (late s k who call o plan.until) fault plan.step))
    by_early (inr (some, e)) = elim (early_plain (fault_of k.tree who call) (is_offline s k who call && not (is_mounted s (reel_of s k who call))) (is_tape_read o && is_offline s k who call) (reel_of s k who call) fault some) [
      | inl plain ↦ inl plain
      | inr device ↦ inr (inl device)
    ]

abbrev is_stop : StoreFault → Bool
is_stop Stopped = true
is_stop fault = false

stop_is : (fault : StoreFault) → is_stop fault ≡ true → fault ≡ Stopped
stop_is Stopped e = refl
stop_is fault e = absurd (let no : ⊥ = cc in no)

no_stop : (fault : StoreFault) → is_stop fault ≡ false → fault ≢ Stopped
no_stop fault e same = let both : true ≡ false = sym (ap is_stop same) ∙ e in absurd cc

answer_of : (f : Option StoreFault) (fault : StoreFault) (reply : StoreReply) → f ≡ Some fault → (let r : Result StoreReply StoreFault = elim f [ Some g ↦ Err g | None ↦ Ok reply ] in Err fault ≡ r)
answer_of f fault reply e = sym (ap (λ (o : Option StoreFault). let r : Result StoreReply StoreFault = elim o [ Some g ↦ Err g | None ↦ Ok reply ] in r) e)

tree_of_refusal : (f : Option StoreFault) (fault : StoreFault) (tree after : Tree) → f ≡ Some fault → tree ≡ elim f [ Some g ↦ tree | None ↦ after ]
tree_of_refusal f fault tree after e = sym (ap (λ (o : Option StoreFault). elim o [ Some g ↦ tree | None ↦ after ]) e)

module _ (plainly : AnswersPlainly) (keep : RefusalsKeep) (stops : StopsLeave) where
  -- A CALL is answered as on the plain tree, or by a device
  pub call_plain : (s : State) (k : Holding) (who : List ℕ) (call : StoreCall) (o : Outcome) (answer : Result StoreReply StoreFault) (new : State) → s.holding ≡ Some k → CallStep s k who call o answer new
      → (after : Tree) × PlainOrDevice k.tree who call answer after × (tree_in new ≡ Some after)
  call_plain s k who call o (Ok reply) new held step =
      let both = plainly s k who call o reply new held step in
      (plain_tree k.tree who call, inl (sym both.0, refl), both.1)
  call_plain s k who call o (Err fault) new held step = by_stop (is_stop fault) refl
    where
      other : is_stop fault ≡ false → tree_in new ≡ Some k.tree
      other e = ap tree_in (keep s k who call o fault new (no_stop fault e) step) ∙ tree_held s k held

      by_cause : is_stop fault ≡ false → ((fault_of k.tree who call ≡ Some fault) ⊎ (IsDeviceRefusal (Err fault) ⊎ (fault ≡ Stopped))) → (after : Tree) × PlainOrDevice k.tree who call (Err fault) after × (tree_in new ≡ Some after)
      by_cause e (inl plain) = (k.tree, inl (answer_of (fault_of k.tree who call) fault (reply_to k.tree who call) plain, tree_of_refusal (fault_of k.tree who call) fault k.tree (tree_after k.tree who call) plain), other e)
      by_cause e (inr (inl device)) = (k.tree, inr (inl (device, refl)), other e)
      by_cause e (inr (inr stop)) = absurd (no_stop fault e stop)

      at_stop : fault ≡ Stopped → ((tree_in new ≡ Some k.tree) ⊎ (tree_in new ≡ Some (plain_tree k.tree who call))) → (after : Tree) × PlainOrDevice k.tree who call (Err fault) after × (tree_in new ≡ Some after)
      at_stop e (inl is) = (k.tree, inr (inr (subst (λ (x : StoreFault). IsStop (Err x)) (sym e) tt, inl refl)), is)
      at_stop e (inr is) = (plain_tree k.tree who call, inr (inr (subst (λ (x : StoreFault). IsStop (Err x)) (sym e) tt, inr refl)), is)

      by_stop : (b : Bool) → is_stop fault ≡ b → (after : Tree) × PlainOrDevice k.tree who call (Err fault) after × (tree_in new ≡ Some after)
      by_stop true e = at_stop (stop_is fault e) (stops s k who call o new held (subst (λ (x : StoreFault). CallStep s k who call o (Err x) new) (stop_is fault e) step))
      by_stop false e = by_cause e (refusals_are s k who call o fault new step)
