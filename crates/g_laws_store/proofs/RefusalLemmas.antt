-- Which calls get which refusal of room and devices.
-- serves: refusals_go_by_calls
use Rattle.std.proofs.Common.{◌≡◌, ℕ, ◌<◌, Bool, true, false, [], ◌∷◌, List, Option, Some, None, is_some, unwrap_or, refl, sym, ◌∙◌, ap, arith, subst, inl, inr}
use Rattle.std.specs.Prelude.{◌⊎◌, ◌&&◌, ◌||◌, not, nat_lt, MatchOption, Result, Ok, Err}
use Rattle.std.proofs.lemmas.Bool.{and_parts, ltb-true, not-true}
use Rattle.std.proofs.lemmas.Option.{same_Some}
use Rattle.g_name.specs.declared.full.Full.{Full}
use Rattle.g_name.specs.declared.path.Path.{Path}
use Rattle.g_entry.specs.declared.file_rec.TapeCopy.{TapeCopy}
use Rattle.g_plain.specs.declared.calls.StoreCall.{StoreCall}
use Rattle.g_plain.specs.declared.calls.StoreCall.TheVariants.{Put, Append, Fetch, List as ListFiles, TrapCheck, Retrieve}
use Rattle.g_plain.specs.declared.calls.StoreReply.{StoreReply}
use Rattle.g_plain.specs.declared.faults.StoreFault.{StoreFault}
use Rattle.g_plain.specs.declared.faults.StoreFault.TheVariants.{WaitTape, DiscFull, DiscReadFault, TapeReadFault, Stopped}
use Rattle.g_plain.specs.PlainStep.{first_fault, fault_of, reply_to}
use Rattle.g_plain.specs.PlainTree.{Tree, input_name}
use Rattle.g_plain.proofs.StepAnswers.{is_plain, own_fault}
use Rattle.g_store_model.specs.State.{Holding, State, is_mounted}
use Rattle.g_store_model.specs.CallStep.{CallStep, LeftByRefusal, Outcome, Planned, brings_now, copy_serial, early, is_cut, is_disc_read, is_offline, is_tape_read, late, len_of, need, place_of, reel_of, room_until, version_read, wants_bytes, writes}
use Rattle.g_store_meaning.specs.Answers.{Leads, WantsCopy}
use Rattle.g_store_meaning.specs.StoreInvariant.{StoreFacts}
use Rattle.g_laws_store.specs.Refusals.{CallIsGranted, ReadsOffline, RefusalsOfCalls, asks_bytes, only_tells, path_read, takes_room}

-- THE CAUSE of a refusal of the step
data Cause (s : State) (k : Holding) (who : List ℕ) (call : StoreCall) (o : Outcome) (fault : StoreFault) : Type 0 where
  plainly : fault_of k.tree who call ≡ Some fault → Cause s k who call o fault
  waiting : fault_of k.tree who call ≡ None → is_offline s k who call ≡ true → is_mounted s (reel_of s k who call) ≡ false → fault ≡ WaitTape (reel_of s k who call) → Cause s k who call o fault
  tape_read : fault_of k.tree who call ≡ None → is_offline s k who call ≡ true → is_mounted s (reel_of s k who call) ≡ true → fault ≡ TapeReadFault → Cause s k who call o fault
  filled : (until : ℕ) → fault_of k.tree who call ≡ None → room_until s k who call until < need s k who call → fault ≡ DiscFull (need s k who call) (room_until s k who call until) → Cause s k who call o fault
  disc_read : fault_of k.tree who call ≡ None → wants_bytes call ≡ true → fault ≡ DiscReadFault → Cause s k who call o fault
  cut_off : fault_of k.tree who call ≡ None → (writes call || brings_now s k who call) ≡ true → fault ≡ Stopped → Cause s k who call o fault

not_err : {A : Type 0} (reply : StoreReply) (f : StoreFault) → (let one : Result StoreReply StoreFault = Err f in one ≡ Ok reply) → A
not_err reply f e = absurd (let no : ⊥ = cc in no)

one_fault : (f g : StoreFault) → (let one : Result StoreReply StoreFault = Err f in one ≡ Err g) → f ≡ g
one_fault f g e = cc

-- a refusal occurs before room is computed, or after it
refused : {P : Type 0} (Q : StoreFault → Type 0) (f : Option StoreFault) (fault : StoreFault) → MatchOption f P (λ g. (let one : Result StoreReply StoreFault = Err fault in one ≡ Err g) × Q g)
    → ((f ≡ None) × P) ⊎ ((f ≡ Some fault) × Q fault)
refused Q None fault step = inl (refl, step)
refused Q (Some g) fault step =
    let same : fault ≡ g = one_fault fault g step.0 in
    inr (ap (λ (x : StoreFault). let o : Option StoreFault = Some x in o) (sym same), subst Q (sym same) step.1)

granted_early : (f : Option StoreFault) (a b : Bool) (fa fb : StoreFault) → first_fault ((is_some f, unwrap_or f Stopped) ∷ (a, fa) ∷ (b, fb) ∷ []) ≡ None → f ≡ None
granted_early None a b fa fb e = refl
granted_early (Some fault) a b fa fb e = absurd (let no : ⊥ = cc in no)

wants_second : (a b c d : Bool) → (a && b && c && d) ≡ true → b ≡ true
wants_second a true c d e = refl
wants_second true false c d e = absurd (let no : ⊥ = cc in no)
wants_second false false c d e = absurd (let no : ⊥ = cc in no)

at_early : (s : State) (k : Holding) (who : List ℕ) (call : StoreCall) (o : Outcome) (fault : StoreFault) (f : Option StoreFault) (off mounted failed : Bool)
    → fault_of k.tree who call ≡ f → is_offline s k who call ≡ off → is_mounted s (reel_of s k who call) ≡ mounted
    → first_fault ((is_some f, unwrap_or f Stopped) ∷ (off && not mounted, WaitTape (reel_of s k who call)) ∷ (failed && off, TapeReadFault) ∷ []) ≡ Some fault → Cause s k who call o fault
at_early s k who call o fault (Some g) off mounted failed is_f is_off is_mounted e = plainly (is_f ∙ e)
at_early s k who call o fault None true false failed is_f is_off is_mounted e = waiting is_f is_off is_mounted (sym (same_Some (WaitTape (reel_of s k who call)) fault e))
at_early s k who call o fault None true true true is_f is_off is_mounted e = tape_read is_f is_off is_mounted (sym (same_Some TapeReadFault fault e))
at_early s k who call o fault None true true false is_f is_off is_mounted e = absurd (let no : ⊥ = cc in no)
at_early s k who call o fault None false mounted true is_f is_off is_mounted e = absurd (let no : ⊥ = cc in no)
at_early s k who call o fault None false mounted false is_f is_off is_mounted e = absurd (let no : ⊥ = cc in no)

at_late : (s : State) (k : Holding) (who : List ℕ) (call : StoreCall) (o : Outcome) (fault : StoreFault) (until : ℕ) (full failed cut : Bool) → fault_of k.tree who call ≡ None
    → nat_lt (room_until s k who call until) (need s k who call) ≡ full
    → (failed ≡ true → wants_bytes call ≡ true) → (cut ≡ true → (writes call || brings_now s k who call) ≡ true)
    → first_fault ((full, DiscFull (need s k who call) (room_until s k who call until)) ∷ (failed, DiscReadFault) ∷ (cut, Stopped) ∷ []) ≡ Some fault → Cause s k who call o fault
at_late s k who call o fault until true failed cut granted is_full reads ends e =
    filled until granted (ltb-true (room_until s k who call until) (need s k who call) is_full) (sym (same_Some (DiscFull (need s k who call) (room_until s k who call until)) fault e))
at_late s k who call o fault until false true cut granted is_full reads ends e = disc_read granted (reads refl) (sym (same_Some DiscReadFault fault e))
at_late s k who call o fault until false false true granted is_full reads ends e = cut_off granted (ends refl) (sym (same_Some Stopped fault e))
at_late s k who call o fault until false false false granted is_full reads ends e = absurd (let no : ⊥ = cc in no)

cause_of : (s : State) (k : Holding) (who : List ℕ) (call : StoreCall) (o : Outcome) (fault : StoreFault) (new : State) → CallStep s k who call o (Err fault) new → Cause s k who call o fault
cause_of s k who call o fault new step = by_early (refused (λ g. new ≡ s) (early s k who call o) fault step)
  where
    by_late : (until : ℕ) {P : Type 0} {L : Type 0} → fault_of k.tree who call ≡ None
        → (((late s k who call o until ≡ None) × ((let one : Result StoreReply StoreFault = Err fault in one ≡ Ok (reply_to k.tree who call)) × P)) ⊎ ((late s k who call o until ≡ Some fault) × L)) → Cause s k who call o fault
    by_late until granted (inl (none, (e, is))) = not_err (reply_to k.tree who call) fault e
    by_late until granted (inr (some, left)) =
        at_late s k who call o fault until (nat_lt (room_until s k who call until) (need s k who call))
        (is_disc_read o && wants_bytes call && not (is_offline s k who call) && nat_lt 0 (len_of s k who call (version_read k.tree who call)))
        (is_cut o && (writes call || brings_now s k who call)) granted refl
        (λ e. wants_second (is_disc_read o) (wants_bytes call) (not (is_offline s k who call)) (nat_lt 0 (len_of s k who call (version_read k.tree who call))) e)
        (λ e. (and_parts (is_cut o) (writes call || brings_now s k who call) e).1) some

    by_early : ((early s k who call o ≡ None) × Planned s k who call o (Err fault) new) ⊎ ((early s k who call o ≡ Some fault) × (new ≡ s)) → Cause s k who call o fault
    by_early (inl (none, plan)) =
        by_late plan.until
        (granted_early (fault_of k.tree who call) (is_offline s k who call && not (is_mounted s (reel_of s k who call))) (is_tape_read o && is_offline s k who call) (WaitTape (reel_of s k who call)) TapeReadFault none)
        (refused (λ g. LeftByRefusal s k who call o plan.until g new) (late s k who call o plan.until) fault plan.step)
    by_early (inr (some, e)) =
        at_early s k who call o fault (fault_of k.tree who call) (is_offline s k who call) (is_mounted s (reel_of s k who call)) (is_tape_read o) refl refl refl some

-- a device's fault is none of the plain step's
never_plain : {A : Type 0} (tree : Tree) (who : List ℕ) (call : StoreCall) (fault : StoreFault) → is_plain fault ≡ false → fault_of tree who call ≡ Some fault → A
never_plain tree who call fault isnt e =
    let is : is_plain fault ≡ true = own_fault tree who call fault fault (sym e) refl in
    absurd (let no : ⊥ = cc in no)

-- WHAT THE CALLS ARE
record IsRead (s : State) (k : Holding) (who : List ℕ) (call : StoreCall) : Type 0 where
  full : Full
  is : version_read k.tree who call ≡ Some full
  reads : ReadsOffline s who call full (reel_of s k who call)

reads_path : (s : State) (k : Holding) (who : List ℕ) (call : StoreCall) (path : Path) → s.holding ≡ Some k → fault_of k.tree who call ≡ None → is_offline s k who call ≡ true
    → path_read call ≡ Some path → version_read k.tree who call ≡ Some (input_name k.tree who path) → IsRead s k who call
reads_path s k who call path holds granted off reads is = record {
  full = input_name k.tree who path;
  is = is;
  reads = record {
    grants = record { held = k; holds = holds; granted = granted };
    path = path;
    reads = reads;
    full_is = refl;
    offline = not-true (place_of s k who call (Some (input_name k.tree who path))).online (subst (λ (v : Option Full). not (place_of s k who call v).online ≡ true) is off);
    reel = λ copy there.
        sym (ap (λ (v : Option Full). copy_serial s k who call (place_of s k who call v).copy) is ∙ ap (λ (c : Option TapeCopy). copy_serial s k who call c) there);
  };
}

reads_offline : (s : State) (k : Holding) (who : List ℕ) (call : StoreCall) → s.holding ≡ Some k → fault_of k.tree who call ≡ None → is_offline s k who call ≡ true → IsRead s k who call
reads_offline s k who (Append path bytes) holds granted off = reads_path s k who (Append path bytes) path holds granted off refl refl
reads_offline s k who (Fetch path mode) holds granted off = reads_path s k who (Fetch path mode) path holds granted off refl refl
reads_offline s k who (Retrieve path) holds granted off = reads_path s k who (Retrieve path) path holds granted off refl refl
reads_offline s k who call holds granted off = absurd (let no : ⊥ = cc in no)

asks : (call : StoreCall) → wants_bytes call ≡ true → asks_bytes call ≡ true
asks (Append path bytes) e = refl
asks (Fetch path mode) e = refl
asks call e = absurd (let no : ⊥ = cc in no)

takes : (s : State) (k : Holding) (who : List ℕ) (call : StoreCall) (room : ℕ) → room < need s k who call → takes_room call ≡ true
takes s k who (Put path bytes) room less = refl
takes s k who (Append path bytes) room less = refl
takes s k who (Fetch path mode) room less = refl
takes s k who (Retrieve path) room less = refl
takes s k who call room less = let none : room < 0 = less in let no : ⊥ = omega (arith, none) in absurd no

tells : (s : State) (k : Holding) (who : List ℕ) (call : StoreCall) → (writes call || brings_now s k who call) ≡ true → only_tells call ≡ false
tells s k who (ListFiles user) e = absurd (let no : ⊥ = cc in no)
tells s k who (TrapCheck path user) e = absurd (let no : ⊥ = cc in no)
tells s k who call e = refl

-- WHAT THE REFUSALS SAY
record Waits (s : State) (who : List ℕ) (call : StoreCall) (serial : ℕ) : Type 0 where
  full : Full
  reads : ReadsOffline s who call full serial
  unmounted : is_mounted s serial ≡ false

one_wait : (m n : ℕ) → WaitTape m ≡ WaitTape n → m ≡ n
one_wait m n e = cc

wait_of : (s : State) (k : Holding) (who : List ℕ) (call : StoreCall) (o : Outcome) (serial : ℕ) → s.holding ≡ Some k → Cause s k who call o (WaitTape serial) → Waits s who call serial
wait_of s k who call o serial holds (plainly e) = never_plain k.tree who call (WaitTape serial) refl e
wait_of s k who call o serial holds (waiting granted off unmounted same) =
    let read = reads_offline s k who call holds granted off in
    let one : reel_of s k who call ≡ serial = sym (one_wait serial (reel_of s k who call) same) in
    subst (λ (n : ℕ). Waits s who call n) one (record { full = read.full; reads = read.reads; unmounted = unmounted })
wait_of s k who call o serial holds (tape_read granted off mounted same) = absurd (let no : ⊥ = cc in no)
wait_of s k who call o serial holds (filled until granted less same) = absurd (let no : ⊥ = cc in no)
wait_of s k who call o serial holds (disc_read granted wants same) = absurd (let no : ⊥ = cc in no)
wait_of s k who call o serial holds (cut_off granted ends same) = absurd (let no : ⊥ = cc in no)

record FailsOnTape (s : State) (who : List ℕ) (call : StoreCall) : Type 0 where
  full : Full
  serial : ℕ
  reads : ReadsOffline s who call full serial
  mounted : is_mounted s serial ≡ true

tape_of : (s : State) (k : Holding) (who : List ℕ) (call : StoreCall) (o : Outcome) → s.holding ≡ Some k → Cause s k who call o TapeReadFault → FailsOnTape s who call
tape_of s k who call o holds (plainly e) = never_plain k.tree who call TapeReadFault refl e
tape_of s k who call o holds (waiting granted off unmounted same) = absurd (let no : ⊥ = cc in no)
tape_of s k who call o holds (tape_read granted off mounted same) =
    let read = reads_offline s k who call holds granted off in
    record { full = read.full; serial = reel_of s k who call; reads = read.reads; mounted = mounted }
tape_of s k who call o holds (filled until granted less same) = absurd (let no : ⊥ = cc in no)
tape_of s k who call o holds (disc_read granted wants same) = absurd (let no : ⊥ = cc in no)
tape_of s k who call o holds (cut_off granted ends same) = absurd (let no : ⊥ = cc in no)

disc_of : (s : State) (k : Holding) (who : List ℕ) (call : StoreCall) (o : Outcome) → s.holding ≡ Some k → Cause s k who call o DiscReadFault → CallIsGranted s who call × (asks_bytes call ≡ true)
disc_of s k who call o holds (plainly e) = never_plain k.tree who call DiscReadFault refl e
disc_of s k who call o holds (waiting granted off unmounted same) = absurd (let no : ⊥ = cc in no)
disc_of s k who call o holds (tape_read granted off mounted same) = absurd (let no : ⊥ = cc in no)
disc_of s k who call o holds (filled until granted less same) = absurd (let no : ⊥ = cc in no)
disc_of s k who call o holds (disc_read granted wants same) = (record { held = k; holds = holds; granted = granted }, asks call wants)
disc_of s k who call o holds (cut_off granted ends same) = absurd (let no : ⊥ = cc in no)

record Fills (s : State) (who : List ℕ) (call : StoreCall) (blocks room : ℕ) : Type 0 where
  grants : CallIsGranted s who call
  takes_some : takes_room call ≡ true
  less : room < blocks

same_need : (a b c d : ℕ) → DiscFull a b ≡ DiscFull c d → a ≡ c
same_need a b c d e = cc

same_room : (a b c d : ℕ) → DiscFull a b ≡ DiscFull c d → b ≡ d
same_room a b c d e = cc

full_of : (s : State) (k : Holding) (who : List ℕ) (call : StoreCall) (o : Outcome) (blocks room : ℕ) → s.holding ≡ Some k → Cause s k who call o (DiscFull blocks room) → Fills s who call blocks room
full_of s k who call o blocks room holds (plainly e) = never_plain k.tree who call (DiscFull blocks room) refl e
full_of s k who call o blocks room holds (waiting granted off unmounted same) = absurd (let no : ⊥ = cc in no)
full_of s k who call o blocks room holds (tape_read granted off mounted same) = absurd (let no : ⊥ = cc in no)
full_of s k who call o blocks room holds (filled until granted less same) =
    let is_need = same_need blocks room (need s k who call) (room_until s k who call until) same in
    let is_room = same_room blocks room (need s k who call) (room_until s k who call until) same in record {
      grants = record { held = k; holds = holds; granted = granted };
      takes_some = takes s k who call (room_until s k who call until) less;
      less = omega (arith, less, is_need, is_room);
    }
full_of s k who call o blocks room holds (disc_read granted wants same) = absurd (let no : ⊥ = cc in no)
full_of s k who call o blocks room holds (cut_off granted ends same) = absurd (let no : ⊥ = cc in no)

stop_of : (s : State) (k : Holding) (who : List ℕ) (call : StoreCall) (o : Outcome) → s.holding ≡ Some k → Cause s k who call o Stopped → CallIsGranted s who call × (only_tells call ≡ false)
stop_of s k who call o holds (plainly e) = never_plain k.tree who call Stopped refl e
stop_of s k who call o holds (waiting granted off unmounted same) = absurd (let no : ⊥ = cc in no)
stop_of s k who call o holds (tape_read granted off mounted same) = absurd (let no : ⊥ = cc in no)
stop_of s k who call o holds (filled until granted less same) = absurd (let no : ⊥ = cc in no)
stop_of s k who call o holds (disc_read granted wants same) = absurd (let no : ⊥ = cc in no)
stop_of s k who call o holds (cut_off granted ends same) = (record { held = k; holds = holds; granted = granted }, tells s k who call ends)

cause_in : (before : State) (old new : StoreFacts) (who : List ℕ) (call : StoreCall) (fault : StoreFault) → (leads : Leads before old new who call (Err fault))
    → Cause before leads.held who call leads.outcome fault
cause_in before old new who call fault leads = cause_of before leads.held who call leads.outcome fault leads.after leads.step

-- a lost copy is that of the file that is read
lost_read : (s : State) (who : List ℕ) (call : StoreCall) (full : Full) (serial : ℕ) → WantsCopy s who call full serial → ReadsOffline s who call full serial
lost_read s who call full serial wants =
    let read = reads_offline s wants.held who call wants.holds wants.granted wants.offline in
    let same : read.full ≡ full = same_Some read.full full (sym read.is ∙ wants.reads) in
    subst (λ (f : Full). ReadsOffline s who call f serial) same (subst (λ (n : ℕ). ReadsOffline s who call read.full n) wants.reel read.reads)

pub refusals_of_calls : RefusalsOfCalls
refusals_of_calls = record {
  lost = λ old new who call full serial s given stands answers.
      let from = answers.step given s stands in
      let wants : WantsCopy from.before who call full serial = from.steps.1 in
      (from.before, record { stands = from.stands; told = from.told }, lost_read from.before who call full serial wants, wants.mounted);
  waits = λ old new who call serial s given stands answers.
      let from = answers.step given s stands in
      let leads : Leads from.before old new who call (Err (WaitTape serial)) = from.steps in
      let it = wait_of from.before leads.held who call leads.outcome serial leads.holds (cause_in from.before old new who call (WaitTape serial) leads) in
      (from.before, it.full, record { stands = from.stands; told = from.told }, it.reads, it.unmounted);
  tape = λ old new who call s given stands answers.
      let from = answers.step given s stands in
      let leads : Leads from.before old new who call (Err TapeReadFault) = from.steps in
      let it = tape_of from.before leads.held who call leads.outcome leads.holds (cause_in from.before old new who call TapeReadFault leads) in
      (from.before, it.full, it.serial, record { stands = from.stands; told = from.told }, it.reads, it.mounted);
  disc = λ old new who call s given stands answers.
      let from = answers.step given s stands in
      let leads : Leads from.before old new who call (Err DiscReadFault) = from.steps in
      let it = disc_of from.before leads.held who call leads.outcome leads.holds (cause_in from.before old new who call DiscReadFault leads) in
      (from.before, record { stands = from.stands; told = from.told }, it.0, it.1);
  filled = λ old new who call blocks room s given stands answers.
      let from = answers.step given s stands in
      let leads : Leads from.before old new who call (Err (DiscFull blocks room)) = from.steps in
      let it = full_of from.before leads.held who call leads.outcome blocks room leads.holds (cause_in from.before old new who call (DiscFull blocks room) leads) in
      (from.before, record { stands = from.stands; told = from.told }, it.grants, it.takes_some, it.less);
  stopped = λ old new who call s told given stands answers.
      let from = answers.step given s stands in
      let leads : Leads from.before old new who call (Err Stopped) = from.steps told in
      let it = stop_of from.before leads.held who call leads.outcome leads.holds (cause_in from.before old new who call Stopped leads) in
      (subst (λ (u : State). CallIsGranted u who call) (from.told told) it.0, it.1);
}
