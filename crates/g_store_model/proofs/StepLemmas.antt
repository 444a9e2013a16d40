-- What follows of the step by cases on its refusals.
-- serves: lib, EventLemmas, ProcessLemmas
use Rattle.std.proofs.Common.{◌≡◌, ℕ, List, [], ◌∷◌, Option, Some, None, refl, sym, ◌∙◌, ap, subst, inl, inr}
use Rattle.std.specs.Prelude.{◌≢◌, ◌⊎◌, Bool, true, false, not, Result, Ok, Err, option_map, MatchOption, is_some, unwrap_or, ◌||◌, ◌&&◌, if◌then◌else◌}
use Rattle.g_plain.specs.declared.calls.StoreCall.{StoreCall}
use Rattle.g_plain.specs.declared.calls.StoreCall.TheVariants.{Fetch, List as ListFiles, TrapCheck, Retrieve}
use Rattle.g_plain.specs.declared.calls.StoreReply.{StoreReply}
use Rattle.g_plain.specs.declared.faults.StoreFault.{StoreFault}
use Rattle.g_plain.specs.declared.faults.StoreFault.TheVariants.{DiscReadFault, TapeReadFault, WaitTape, Stopped}
use Rattle.g_plain.specs.PlainTree.{Tree}
use Rattle.g_plain.specs.PlainStep.{first_fault, fault_of, plain_answer, plain_tree, reply_to}
use Rattle.g_store_model.specs.State.{State, Holding, OpenDump, is_mounted}
use Rattle.g_store_model.specs.CallStep.{Outcome, LeftByRefusal, Planned, after_call, early, late, writes, brings_now, is_offline, is_tape_read, reel_of, no_longer_kept, down}
use Rattle.g_store_model.specs.DumpSteps.{Going, Completed, UsedByCut}
use Rattle.g_store_model.specs.Laws.{tree_in, AnswersPlainly, DumpsKeepTree, RefusalsKeep, StopsLeave}

pub tree_down : (s : State) (k : Holding) → s.holding ≡ Some k → tree_in (down s) ≡ Some k.tree
tree_down s k held = ap (λ (h : Option Holding). option_map (λ (x : Holding). x.tree) (option_map no_longer_kept h)) held

pub tree_held : (s : State) (k : Holding) → s.holding ≡ Some k → tree_in s ≡ Some k.tree
tree_held s k held = ap (option_map (λ (x : Holding). x.tree)) held

used_by_cut : (s new : State) (k : Holding) (d : OpenDump) → s.holding ≡ Some k → UsedByCut d (down s) new → tree_in new ≡ Some k.tree
used_by_cut s new k d held (inl e) = ap tree_in e ∙ tree_down s k held
used_by_cut s new k d held (inr (z, inl e)) = ap tree_in e ∙ tree_down s k held
used_by_cut s new k d held (inr (z, inr e)) = ap tree_in e ∙ tree_down s k held

pub dumps_keep_tree : DumpsKeepTree
dumps_keep_tree s k d o (Ok Going) new held step = ap tree_in step.3 ∙ tree_held s k held
dumps_keep_tree s k d o (Ok (Completed n)) new held step = ap tree_in step.3
dumps_keep_tree s k d o (Err DiscReadFault) new held step = ap tree_in step.2 ∙ tree_held s k held
dumps_keep_tree s k d o (Err Stopped) new held (cut, inl used) = used_by_cut s new k d held used
dumps_keep_tree s k d o (Err Stopped) new held (cut, inr (last, inl e)) = ap tree_in e ∙ tree_down s k held
dumps_keep_tree s k d o (Err Stopped) new held (cut, inr (last, inr e)) = ap tree_in e
dumps_keep_tree s k d o (Err fault) new held step = absurd step

not_ok : {A : Type 0} (reply : StoreReply) (fault : StoreFault) → (let one : Result StoreReply StoreFault = Ok reply in one ≡ Err fault) → A
not_ok reply fault e = absurd (let no : ⊥ = cc in no)

-- An answer that is Ok has passed all refusals.
pub not_refused : {P : Type 0} (Q : StoreFault → Type 0) (f : Option StoreFault) (reply : StoreReply) → MatchOption f P (λ fault. (let one : Result StoreReply StoreFault = Ok reply in one ≡ Err fault) × Q fault) → (f ≡ None) × P
not_refused Q None reply step = (refl, step)
not_refused Q (Some fault) reply step = not_ok reply fault step.0

early_none : (f : Option StoreFault) (a b : Bool) (fa fb : StoreFault) → first_fault ((is_some f, unwrap_or f Stopped) ∷ (a, fa) ∷ (b, fb) ∷ []) ≡ None → f ≡ None
early_none None a b fa fb e = refl
early_none (Some fault) a b fa fb e = absurd (let no : ⊥ = cc in no)

kept_tree : (f : Option StoreFault) (tree : Tree) → elim f [ Some fault ↦ tree | None ↦ tree ] ≡ tree
kept_tree None tree = refl
kept_tree (Some fault) tree = refl

reads_keep : (tree : Tree) (who : List ℕ) (call : StoreCall) → writes call ≡ false → plain_tree tree who call ≡ tree
reads_keep tree who (Fetch path mode) e = kept_tree (fault_of tree who (Fetch path mode)) tree
reads_keep tree who (Retrieve path) e = kept_tree (fault_of tree who (Retrieve path)) tree
reads_keep tree who (ListFiles user) e = kept_tree (fault_of tree who (ListFiles user)) tree
reads_keep tree who (TrapCheck path user) e = kept_tree (fault_of tree who (TrapCheck path user)) tree
reads_keep tree who call e = absurd (let no : ⊥ = cc in no)

after_tree : (b : Bool) (w : Bool) (s then_ : State) (k : Holding) (after : Tree) → s.holding ≡ Some k → tree_in then_ ≡ Some after → (w ≡ false → after ≡ k.tree)
    → tree_in (if w || b then then_ else s) ≡ Some after
after_tree b true s then_ k after held is same = is
after_tree true false s then_ k after held is same = is
after_tree false false s then_ k after held is same = tree_held s k held ∙ ap Some (sym (same refl))

pub answers_plainly : AnswersPlainly
answers_plainly s k who call o reply new held step =
    let first = not_refused _ (early s k who call o) reply step in
    let plan = first.1 in
    let second = not_refused _ (late s k who call o plan.until) reply plan.step in
    let none : fault_of k.tree who call ≡ None = early_none (fault_of k.tree who call) (is_offline s k who call && not (is_mounted s (reel_of s k who call))) (is_tape_read o && is_offline s k who call) (WaitTape (reel_of s k who call)) TapeReadFault first.0 in
    let replied : plain_answer k.tree who call ≡ Ok (reply_to k.tree who call) =
    ap (λ (f : Option StoreFault). let r : Result StoreReply StoreFault = elim f [ Some fault ↦ Err fault | None ↦ Ok (reply_to k.tree who call) ] in r) none in
    (replied ∙ sym second.1.0, ap tree_in second.1.1 ∙ after_tree (brings_now s k who call) (writes call) s _ k (plain_tree k.tree who call) held refl (reads_keep k.tree who call))

pub one_fault : (f g : StoreFault) → (let one : Result StoreReply StoreFault = Err f in one ≡ Err g) → f ≡ g
one_fault f g e = cc

pub not_err : {A : Type 0} (reply : StoreReply) (f : StoreFault) → (let one : Result StoreReply StoreFault = Err f in one ≡ Ok reply) → A
not_err reply f e = absurd (let no : ⊥ = cc in no)

pub left_same : (s : State) (k : Holding) (who : List ℕ) (call : StoreCall) (o : Outcome) (until : ℕ) (f : StoreFault) (new : State) → f ≢ Stopped → LeftByRefusal s k who call o until f new → new ≡ s
left_same s k who call o until Stopped new other left = absurd (other refl)
left_same s k who call o until f new other left = left

-- A refusal precedes the check of room, or follows it.
pub refused : {P : Type 0} (Q : StoreFault → Type 0) (f : Option StoreFault) (fault : StoreFault) → MatchOption f P (λ g. (let one : Result StoreReply StoreFault = Err fault in one ≡ Err g) × Q g)
    → ((f ≡ None) × P) ⊎ ((f ≡ Some fault) × Q fault)
refused Q None fault step = inl (refl, step)
refused Q (Some g) fault step =
    let same : fault ≡ g = one_fault fault g step.0 in
    inr (ap Some (sym same), subst Q (sym same) step.1)

late_left : (s : State) (k : Holding) (who : List ℕ) (call : StoreCall) (o : Outcome) (fault : StoreFault) (new : State) (plan : Planned s k who call o (Err fault) new)
    → LeftByRefusal s k who call o plan.until fault new
late_left s k who call o fault new plan = by_case (refused (λ g. LeftByRefusal s k who call o plan.until g new) (late s k who call o plan.until) fault plan.step)
  where
    by_case : {A B : Type 0} {L : Type 0} → ((A × ((let one : Result StoreReply StoreFault = Err fault in one ≡ Ok (reply_to k.tree who call)) × B)) ⊎ ((late s k who call o plan.until ≡ Some fault) × L)) → L
    by_case (inl (none, (e, is))) = not_err (reply_to k.tree who call) fault e
    by_case (inr (some, left)) = left

pub refusals_keep : RefusalsKeep
refusals_keep s k who call o fault new other step = by_case (refused (λ g. new ≡ s) (early s k who call o) fault step)
  where
    by_case : ((early s k who call o ≡ None) × Planned s k who call o (Err fault) new) ⊎ ((early s k who call o ≡ Some fault) × (new ≡ s)) → new ≡ s
    by_case (inl (none, plan)) = left_same s k who call o plan.until fault new other (late_left s k who call o fault new plan)
    by_case (inr (some, e)) = e

after_down : (b w : Bool) (s then_ : State) (k : Holding) (after : Tree) → s.holding ≡ Some k → tree_in (down then_) ≡ Some after
    → (tree_in (down (if w || b then then_ else s)) ≡ Some k.tree) ⊎ (tree_in (down (if w || b then then_ else s)) ≡ Some after)
after_down b true s then_ k after held is = inr is
after_down true false s then_ k after held is = inr is
after_down false false s then_ k after held is = inl (tree_down s k held)

pub stops_leave : StopsLeave
stops_leave s k who call o new held step = by_case (refused (λ g. new ≡ s) (early s k who call o) Stopped step)
  where
    through : (then_ : State) → new ≡ then_ → ((tree_in then_ ≡ Some k.tree) ⊎ (tree_in then_ ≡ Some (plain_tree k.tree who call))) → (tree_in new ≡ Some k.tree) ⊎ (tree_in new ≡ Some (plain_tree k.tree who call))
    through then_ e (inl is) = inl (ap tree_in e ∙ is)
    through then_ e (inr is) = inr (ap tree_in e ∙ is)

    left : (until : ℕ) → LeftByRefusal s k who call o until Stopped new → (tree_in new ≡ Some k.tree) ⊎ (tree_in new ≡ Some (plain_tree k.tree who call))
    left until (inl e) = inl (ap tree_in e ∙ tree_down s k held)
    left until (inr (inl (some, e))) = inl (ap tree_in e)
    left until (inr (inr e)) = through (down (after_call s k who call until)) e (after_down (brings_now s k who call) (writes call) s _ k (plain_tree k.tree who call) held refl)

    by_case : ((early s k who call o ≡ None) × Planned s k who call o (Err Stopped) new) ⊎ ((early s k who call o ≡ Some Stopped) × (new ≡ s)) → (tree_in new ≡ Some k.tree) ⊎ (tree_in new ≡ Some (plain_tree k.tree who call))
    by_case (inl (none, plan)) = left plan.until (late_left s k who call o Stopped new plan)
    by_case (inr (some, e)) = inl (ap tree_in e ∙ tree_held s k held)
