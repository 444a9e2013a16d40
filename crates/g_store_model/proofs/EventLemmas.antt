-- Further laws of the step: refusals, completeness, and the events that change no tree.
-- serves: lib, refusals_are_plain (complete, only)
use Rattle.std.proofs.Common.{◌≡◌, ℕ, ◌+◌, ◌<◌, ◌≤◌, List, [], ◌∷◌, Option, Some, None, refl, sym, ◌∙◌, ap, subst, inl, inr, arith}
use Rattle.std.specs.Prelude.{option_map, if◌then◌else◌, ◌⊎◌, Bool, true, false, not, nat_lt, sum_by, Result, Ok, Err, MatchOption, is_some, unwrap_or, ◌||◌, ◌&&◌}
use Rattle.std.specs.FinMap.{entries}
use Rattle.std.proofs.lemmas.Bool.{lt-ltb, ltb-true}
use Rattle.std.proofs.lemmas.List.Sums.{sum_by-cons}
use Rattle.g_name.specs.declared.full.Full.{Full}
use Rattle.g_plain.specs.declared.calls.StoreCall.{StoreCall}
use Rattle.g_plain.specs.declared.calls.StoreReply.{StoreReply}
use Rattle.g_plain.specs.declared.faults.StoreFault.{StoreFault}
use Rattle.g_plain.specs.declared.faults.StoreFault.TheVariants.{DiscFull, DiscReadFault, TapeReadFault, WaitTape, Stopped}
use Rattle.g_plain.specs.PlainTree.{Tree, FileRow}
use Rattle.g_plain.specs.PlainStep.{Checks, first_fault, fault_of, plain_answer, reply_to}
use Rattle.g_store_model.specs.State.{State, Holding, Dumped, OpenDump, blocks_of, is_candidate, is_mounted, is_taken, only_if, place_at}
use Rattle.g_store_model.specs.CallStep.{Outcome, CallStep, touched_by, Plain, DiscRead, LeftByRefusal, Planned, brings_now, down, early, is_cut, is_disc_read, is_offline, is_tape_read, late, len_of, need, reel_of, room_until, version_read, wants_bytes, writes}
use Rattle.g_store_model.specs.DumpSteps.{Event, migrate_refuses, open_refuses, opening}
use Rattle.g_store_model.specs.Rising.{Starts, adopted, coming_up, dump_adopted, start_refuses}
use Rattle.g_store_model.specs.Laws.{OpeningsTree, opened_tree, dumped_tree, EventsKeepTree, GrantedIsDone, PlainRefusals, RefusesPlainly, is_of_devices, tree_in}
use Rattle.g_store_model.proofs.StepLemmas.{not_refused, refusals_keep, not_err, refused, tree_down, tree_held}

some_same : (f g : StoreFault) → (let one : Option StoreFault = Some f in one ≡ Some g) → f ≡ g
some_same f g e = cc

at_first : (P : Type 0) (Q : StoreFault → Type 0) (f : Option StoreFault) (rest : Checks) (fault : StoreFault) (answer : Result StoreReply StoreFault) → f ≡ Some fault
    → MatchOption (first_fault ((is_some f, unwrap_or f Stopped) ∷ rest)) P (λ g. (answer ≡ Err g) × Q g) → answer ≡ Err fault
at_first P Q None rest fault answer e step = absurd (let no : ⊥ = cc in no)
at_first P Q (Some g) rest fault answer e step = step.0 ∙ ap Err (some_same g fault e)

pub plain_refusals : PlainRefusals
plain_refusals s k who call o fault answer new is step =
    at_first (Planned s k who call o answer new) (λ g. new ≡ s) (fault_of k.tree who call)
    ((is_offline s k who call && not (is_mounted s (reel_of s k who call)), WaitTape (reel_of s k who call)) ∷ (is_tape_read o && is_offline s k who call, TapeReadFault) ∷ [])
    fault answer is step

-- a device's fault is none of the plain step's
not_of_devices : {A : Type 0} (f fault : StoreFault) → is_of_devices f ≡ true → is_of_devices fault ≡ false → (let one : Option StoreFault = Some f in one ≡ Some fault) → A
not_of_devices f fault is isnt e =
    let same : is_of_devices f ≡ is_of_devices fault = ap is_of_devices (some_same f fault e) in
    absurd (let no : ⊥ = cc in no)

early_some : (f : Option StoreFault) (a b : Bool) (n : ℕ) (fault : StoreFault) → is_of_devices fault ≡ false
    → first_fault ((is_some f, unwrap_or f Stopped) ∷ (a, WaitTape n) ∷ (b, TapeReadFault) ∷ []) ≡ Some fault → f ≡ Some fault
early_some (Some g) a b n fault isnt e = e
early_some None true b n fault isnt e = not_of_devices (WaitTape n) fault refl isnt e
early_some None false true n fault isnt e = not_of_devices TapeReadFault fault refl isnt e
early_some None false false n fault isnt e = absurd (let no : ⊥ = cc in no)

late_not : {A : Type 0} (a b c : Bool) (n r : ℕ) (fault : StoreFault) → is_of_devices fault ≡ false
    → first_fault ((a, DiscFull n r) ∷ (b, DiscReadFault) ∷ (c, Stopped) ∷ []) ≡ Some fault → A
late_not true b c n r fault isnt e = not_of_devices (DiscFull n r) fault refl isnt e
late_not false true c n r fault isnt e = not_of_devices DiscReadFault fault refl isnt e
late_not false false true n r fault isnt e = not_of_devices Stopped fault refl isnt e
late_not false false false n r fault isnt e = absurd (let no : ⊥ = cc in no)

plainly : (tree : Tree) (who : List ℕ) (call : StoreCall) (f : Option StoreFault) → fault_of tree who call ≡ f
    → plain_answer tree who call ≡ (let r : Result StoreReply StoreFault = elim f [ Some fault ↦ Err fault | None ↦ Ok (reply_to tree who call) ] in r)
plainly tree who call f e = ap (λ (g : Option StoreFault). let r : Result StoreReply StoreFault = elim g [ Some fault ↦ Err fault | None ↦ Ok (reply_to tree who call) ] in r) e

pub refuses_plainly : RefusesPlainly
refuses_plainly s k who call o fault new isnt step = by_case (refused (λ g. new ≡ s) (early s k who call o) fault step)
  where
    behind : (until : ℕ) {P : Type 0} {L : Type 0} → (((late s k who call o until ≡ None) × ((let one : Result StoreReply StoreFault = Err fault in one ≡ Ok (reply_to k.tree who call)) × P)) ⊎ ((late s k who call o until ≡ Some fault) × L)) → plain_answer k.tree who call ≡ Err fault
    behind until (inl (none, (e, is))) = not_err (reply_to k.tree who call) fault e
    behind until (inr (some, left)) = late_not
        (nat_lt (room_until s k who call until) (need s k who call))
        (is_disc_read o && wants_bytes call && not (is_offline s k who call) && nat_lt 0 (len_of s k who call (version_read k.tree who call)))
        (is_cut o && (writes call || brings_now s k who call))
        (need s k who call) (room_until s k who call until) fault isnt some

    by_case : ((early s k who call o ≡ None) × Planned s k who call o (Err fault) new) ⊎ ((early s k who call o ≡ Some fault) × (new ≡ s)) → plain_answer k.tree who call ≡ Err fault
    by_case (inl (none, plan)) = behind plan.until (refused (λ g. LeftByRefusal s k who call o plan.until g new) (late s k who call o plan.until) fault plan.step)
    by_case (inr (some, e)) = plainly k.tree who call (Some fault) (early_some (fault_of k.tree who call)
        (is_offline s k who call && not (is_mounted s (reel_of s k who call))) (is_tape_read o && is_offline s k who call) (reel_of s k who call) fault isnt some)

-- COMPLETENESS
no_wait : (a m : Bool) → (a ≡ true → m ≡ true) → (a && not m) ≡ false
no_wait false m if_ = refl
no_wait true true if_ = refl
no_wait true false if_ = absurd (let e = if_ refl in (let no : ⊥ = cc in no))

early_none : (f : Option StoreFault) (a : Bool) (fa fb : StoreFault) → f ≡ None → a ≡ false → first_fault ((is_some f, unwrap_or f Stopped) ∷ (a, fa) ∷ (false, fb) ∷ []) ≡ None
early_none None false fa fb e none = refl
early_none None true fa fb e none = absurd (let no : ⊥ = cc in no)
early_none (Some f) a fa fb e none = absurd (let no : ⊥ = cc in no)

late_none : (a : Bool) (fa fb fc : StoreFault) → a ≡ false → first_fault ((a, fa) ∷ (false, fb) ∷ (false, fc) ∷ []) ≡ None
late_none false fa fb fc e = refl
late_none true fa fb fc e = absurd (let no : ⊥ = cc in no)

at_none : (f : Option StoreFault) (P : Type 0) (Q : StoreFault → Type 0) → f ≡ None → MatchOption f P Q → P
at_none None P Q e p = p
at_none (Some f) P Q e p = absurd (let no : ⊥ = cc in no)

only_more : (b c : Bool) (n : ℕ) → (b ≡ true → c ≡ true) → only_if b n ≤ only_if c n
only_more false c n more = omega arith
only_more true true n more = omega arith
only_more true false n more = absurd (let e = more refl in (let no : ⊥ = cc in no))

right_of : (a b : Bool) → (a && b) ≡ true → b ≡ true
right_of true b e = e
right_of false b e = absurd (let no : ⊥ = cc in no)

both : (a b : Bool) → a ≡ true → b ≡ true → (a && b) ≡ true
both true true e f = refl
both true false e f = f
both false b e f = absurd (let no : ⊥ = cc in no)

less_is : (m n : ℕ) → m < n → nat_lt m n ≡ true
less_is m n less = lt-ltb m n less

not_less : (m n : ℕ) → n ≤ m → nat_lt m n ≡ false
not_less m n le = is_not (nat_lt m n) (λ e. let less = ltb-true m n e in omega arith)
  where
    is_not : (b : Bool) → (b ≡ true → ⊥) → b ≡ false
    is_not false not_so = refl
    is_not true not_so = absurd (not_so refl)

taken_more : (k : Holding) (until all : ℕ) → ((stamp : ℕ) → is_candidate (place_at k.places stamp) ≡ true → stamp < all) → (es : List (Full × FileRow))
    → sum_by (λ e. only_if (is_taken k until e.1.stamp) (blocks_of e.1)) es ≤ sum_by (λ e. only_if (is_taken k all e.1.stamp) (blocks_of e.1)) es
taken_more k until all below [] = omega arith
taken_more k until all below (e ∷ es) =
    let one = only_more (is_taken k until e.1.stamp) (is_taken k all e.1.stamp) (blocks_of e.1)
    (λ is. let candidate = right_of (nat_lt e.1.stamp until) (is_candidate (place_at k.places e.1.stamp)) is in
    both (nat_lt e.1.stamp all) (is_candidate (place_at k.places e.1.stamp)) (less_is e.1.stamp all (below e.1.stamp candidate)) candidate) in
    let others = taken_more k until all below es in
    let before = sum_by-cons (λ (e : Full × FileRow). only_if (is_taken k until e.1.stamp) (blocks_of e.1)) e es in
    let behind = sum_by-cons (λ (e : Full × FileRow). only_if (is_taken k all e.1.stamp) (blocks_of e.1)) e es in
    omega arith

pub granted_is_done : GrantedIsDone
granted_is_done s k who call until answer new granted mounted room step =
    let plan = at_none (early s k who call Plain) (Planned s k who call Plain answer new) (λ fault. (answer ≡ Err fault) × (new ≡ s))
    (early_none (fault_of k.tree who call) (is_offline s k who call && not (is_mounted s (reel_of s k who call))) (WaitTape (reel_of s k who call)) TapeReadFault granted
    (no_wait (is_offline s k who call) (is_mounted s (reel_of s k who call)) mounted)) step in
    let has_room = enough plan.until plan.unjam.enough in
    let done = at_none (late s k who call Plain plan.until) _ _
    (late_none (nat_lt (room_until s k who call plan.until) (need s k who call)) (DiscFull (need s k who call) (room_until s k who call plan.until)) DiscReadFault Stopped
    (not_less (room_until s k who call plan.until) (need s k who call) has_room)) plan.step in
    done.0 ∙ sym (plainly k.tree who call None granted)
  where
    enough : (all : ℕ) → ((need s k who call ≤ room_until s k who call all) ⊎ ((stamp : ℕ) → is_candidate (place_at k.places stamp) ≡ true → stamp < all)) → need s k who call ≤ room_until s k who call all
    enough all (inl is) = is
    enough all (inr below) = let more = taken_more k until all below (entries k.tree.files) in omega arith

-- EVENTS OF ONE COMMIT
event_tree : {A : Type 0} (refusal : Option StoreFault) (reply : A) (s after : State) (tree : Tree) (answer : Result A StoreFault) (new : State)
    → tree_in s ≡ Some tree → tree_in (down s) ≡ Some tree → tree_in after ≡ Some tree → tree_in (down after) ≡ Some tree
    → Event refusal reply s after answer new → tree_in new ≡ Some tree
event_tree None reply s after tree answer new before below behind gone step = ap tree_in step.1 ∙ behind
event_tree (Some Stopped) reply s after tree answer new before below behind gone (e, inl is) = ap tree_in is ∙ below
event_tree (Some Stopped) reply s after tree answer new before below behind gone (e, inr is) = ap tree_in is ∙ gone
event_tree (Some fault) reply s after tree answer new before below behind gone step = ap tree_in step.1 ∙ before

adopted_tree : (d : Option Dumped) (k : Holding) → (adopted d k).tree ≡ k.tree
adopted_tree None k = refl
adopted_tree (Some d) k = refl

started : (s : State) (k : Holding) (o : Outcome) (answer : Result (Option ℕ) StoreFault) (new : State) → s.holding ≡ Some k → Starts s (Some k) o answer new → tree_in new ≡ Some k.tree
started s k DiscRead answer new held step = ap tree_in step.1 ∙ tree_held s k held
started s k o answer new held step =
    event_tree (start_refuses s k o) _ s (coming_up s (adopted (dump_adopted s k) k)) k.tree answer new (tree_held s k held) (tree_down s k held)
    (ap Some (adopted_tree (dump_adopted s k) k)) (ap Some (adopted_tree (dump_adopted s k) k)) step

pub events_keep_tree : EventsKeepTree
events_keep_tree = record {
  opening = λ s k serial o answer new held step.
      event_tree (open_refuses s k serial o) (k.last + 1) s (opening s k serial step.0) k.tree answer new (tree_held s k held) (tree_down s k held) refl refl step.2;
  migrating = λ s k user full o answer new held step. event_tree (migrate_refuses k user full o) full s _ k.tree answer new (tree_held s k held) (tree_down s k held) refl refl step;
  mounting = λ s k serial answer new held step. event_tree _ tt s _ k.tree answer new (tree_held s k held) (tree_down s k held) (tree_held s k held) (tree_down s k held) step;
  unmounting = λ s k serial answer new held step. event_tree _ tt s _ k.tree answer new (tree_held s k held) (tree_down s k held) (tree_held s k held) (tree_down s k held) step;
  starting = λ s k o answer new held step. started s k o answer new held (subst (λ (h : Option Holding). Starts s h o answer new) held step);
}

-- THE OPENING'S TREE
event_open : {A : Type 0} (refusal : Option StoreFault) (reply : A) (s after : State) (answer : Result A StoreFault) (new : State)
    → opened_tree after ≡ opened_tree s → (let one : Result A StoreFault = Err Stopped in answer ≡ one → ⊥) → Event refusal reply s after answer new → opened_tree new ≡ opened_tree s
event_open None reply s after answer new same going step = ap opened_tree step.1 ∙ same
event_open (Some Stopped) reply s after answer new same going step = absurd (going step.0)
event_open (Some fault) reply s after answer new same going step = ap opened_tree step.1

-- an event that was answered was done
event_done : {A : Type 0} (refusal : Option StoreFault) (reply : A) (s after : State) (answer : A) (new : State) → Event refusal reply s after (Ok answer) new → new ≡ after
event_done None reply s after answer new step = step.1
event_done (Some Stopped) reply s after answer new step = absurd (let e = step.0 in (let no : ⊥ = cc in no))
event_done (Some fault) reply s after answer new step = absurd (let e = step.0 in (let no : ⊥ = cc in no))

touched_same : (s : State) (k : Holding) (who : List ℕ) (call : StoreCall) (o : Option OpenDump)
    → option_map (λ (d : OpenDump). d.tree) (option_map (touched_by s k who call) o) ≡ option_map (λ (d : OpenDump). d.tree) o
touched_same s k who call None = refl
touched_same s k who call (Some d) = refl

one_of : (b : Bool) (s then_ : State) → opened_tree then_ ≡ opened_tree s → opened_tree (if b then then_ else s) ≡ opened_tree s
one_of true s then_ same = same
one_of false s then_ same = refl

call_open : (s : State) (k : Holding) (who : List ℕ) (call : StoreCall) (o : Outcome) (answer : Result StoreReply StoreFault) (new : State)
    → (answer ≡ Err Stopped → ⊥) → CallStep s k who call o answer new → opened_tree new ≡ opened_tree s
call_open s k who call o (Err fault) new going step = ap opened_tree (refusals_keep s k who call o fault new (λ e. going (ap Err e)) step)
call_open s k who call o (Ok reply) new going step =
    let plan = (not_refused (λ fault. new ≡ s) (early s k who call o) reply step).1 in
    let done = (not_refused (λ fault. LeftByRefusal s k who call o plan.until fault new) (late s k who call o plan.until) reply plan.step).1 in
    ap opened_tree done.1 ∙ one_of (writes call || brings_now s k who call) s _ (touched_same s k who call s.open_dump)

pub openings_tree : OpeningsTree
openings_tree = record {
  opens = λ s k serial o number new step. ap opened_tree (event_done (open_refuses s k serial o) (k.last + 1) s (opening s k serial step.0) number new step.2);
  calls = call_open;
  migrating = λ s k user full o answer new going step. event_open (migrate_refuses k user full o) full s _ answer new refl going step;
  mounting = λ s serial answer new going step. event_open _ tt s _ answer new refl going step;
  unmounting = λ s serial answer new going step. event_open _ tt s _ answer new refl going step;
  going = λ s k d o new step. ap opened_tree step.3;
  completes = λ s k d o number new step. ap dumped_tree step.3;
}
