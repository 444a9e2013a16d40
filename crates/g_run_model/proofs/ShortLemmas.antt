-- Every file of the current trees has at most 65,536 bytes, also after each event. Therefore a store answers each call as a
-- turn may be answered.
-- serves: PricedLemmas, ProcessedLemmas, ReadLemmas
use Rattle.std.proofs.Common.{◌≡◌, ◌≤◌, ◌+◌, ◌||◌, ℕ, Bool, true, false, cond, not, List, ◌∷◌, ◌++◌, length, length-append, Option, Some, None, IfSome, option_map, unwrap_or, Result, Ok, Err, MatchOption, if◌then◌else◌, refl, sym, ◌∙◌, subst, inl, inr, arith}
use Rattle.std.proofs.lemmas.Bool.{false≢true}
use Rattle.std.specs.FinMap.{FinMap, get, get-empty, get-insert, get-remove, insert, remove}
use Rattle.std.specs.List.{AllByRecursion}
use Rattle.std.specs.Ordering.{eq_by_cmp}
use Rattle.g_turn.specs.Bounds.{MayAnswer}
use Rattle.g_name.proofs.Order.{full_total}
use Rattle.g_name.specs.Order.{full_cmp}
use Rattle.g_name.specs.declared.full.Full.{Full}
use Rattle.g_plain.proofs.StepKept.{all_passed, not_above}
use Rattle.g_plain.specs.Programs.{Answer, IsAnswer}
use Rattle.g_plain.specs.PlainAnswers.{may_wait}
use Rattle.g_plain.specs.PlainStep.{checks, fault_of, plain_answer, plain_tree, reply_to, tree_after}
use Rattle.g_plain.specs.PlainTree.{FileRow, Tree, file_row, formatted, has_user, input_name, no_row, output_name}
use Rattle.g_plain.specs.Replies.{IsReplyTo}
use Rattle.g_plain.specs.declared.calls.StoreCall.{StoreCall}
use Rattle.g_plain.specs.declared.calls.StoreCall.TheVariants as call
use Rattle.g_plain.specs.declared.calls.StoreReply.{StoreReply}
use Rattle.g_plain.specs.declared.faults.StoreFault.{StoreFault}
use Rattle.g_plain.specs.declared.faults.StoreFault.TheVariants.{DiscReadFault, NoMemory, NoUser, Stopped, WaitTape}
use Rattle.g_store_model.specs.CallStep.{CallStep, Cut, DiscRead, Outcome, Plain, TapeRead, after_call, brings_now, commits, down, held_after, is_offline, no_longer_kept, touched_by, writes}
use Rattle.g_store_model.specs.DumpSteps.{Completed, DumpStep, Event, Going, MigrateStep, MountStep, OpenStep, Stepped as DumpStepped, UnmountStep, UsedByCut}
use Rattle.g_store_model.specs.Laws.{AnswersPlainly}
use Rattle.g_store_model.specs.Rising.{FormatStep, RestoreStep, Restores, StartStep, Starts, adopted, dump_adopted, restore_early}
use Rattle.g_store_model.specs.State.{Dumped as DumpedTree, Holding, OpenDump, State}
use Rattle.g_run_model.specs.Laws.{AreShort, IsShort}
use Rattle.g_run_model.proofs.MountLemmas.{wait_offline}
use Rattle.g_run_model.proofs.StepLemmas.{call_kept}

-- A TREE
some_row : (a b : FileRow) → (let one : Option FileRow = Some a in one ≡ Some b) → a ≡ b
some_row a b e = cc

same_reply : (a b : StoreReply) → (let one : Result StoreReply StoreFault = Ok a in one ≡ Ok b) → a ≡ b
same_reply a b e = cc

short_insert : (t : Tree) (m : FinMap full_cmp FileRow) → IsShort (record t { files = m }) → (full : Full) (row : FileRow) → length row.bytes ≤ 65536 → IsShort (record t { files = insert m full row })
short_insert t m h full row few q x there = by (eq_by_cmp full_cmp q full) (sym (get-insert full_total m full row q) ∙ there)
  where
    by : (b : Bool) → cond b (Some row) (get m q) ≡ Some x → length x.bytes ≤ 65536
    by true e = subst (λ (y : FileRow). length y.bytes ≤ 65536) (some_row row x e) few
    by false e = h q x e

short_remove : (t : Tree) (m : FinMap full_cmp FileRow) → IsShort (record t { files = m }) → (full : Full) → IsShort (record t { files = remove m full })
short_remove t m h full q x there = by (eq_by_cmp full_cmp q full) (sym (get-remove full_total m full q) ∙ there)
  where
    by : (b : Bool) → cond b None (get m q) ≡ Some x → length x.bytes ≤ 65536
    by true e = absurd (let no : ⊥ = cc in no)
    by false e = h q x e

row_short : (t : Tree) → IsShort t → (full : Full) → (o : Option FileRow) → get t.files full ≡ o → length (unwrap_or o no_row).bytes ≤ 65536
unfolding no_row
row_short t h full None e = (let low : 0 ≤ 65536 = omega arith in low)
row_short t h full (Some row) e = h full row e

file_short : (t : Tree) → IsShort t → (full : Full) → length (file_row t full).bytes ≤ 65536
file_short t h full = row_short t h full (get t.files full) refl

after_short : (t : Tree) (who : List ℕ) (asked : StoreCall) → IsShort t → AllByRecursion (λ c. c.0 ≡ false) ((not (has_user t who), NoUser) ∷ checks t who asked) → IsShort (tree_after t who asked)
after_short t who (call.NewUser user space time money) h p = h
after_short t who (call.Budget user kind amount) h p = h
after_short t who (call.Put path bytes) h p = short_insert t t.files h (output_name t who path) _ (not_above 65536 (length bytes) p.1.1.1.1.1.0)
after_short t who (call.Append path bytes) h p =
    let full = input_name t who path in
    let all : length (file_row t full).bytes + length bytes ≤ 65536 = not_above 65536 (length (file_row t full).bytes + length bytes) p.1.1.1.1.0 in
    let both : length ((file_row t full).bytes ++ bytes) ≡ length (file_row t full).bytes + length bytes = length-append (file_row t full).bytes bytes in
    short_insert t t.files h full _ (subst (λ (n : ℕ). n ≤ 65536) (sym both) all)
after_short t who (call.Erase path) h p = short_remove t t.files h (input_name t who path)
after_short t who (call.Rename path to) h p =
    short_insert t (remove t.files (input_name t who path)) (short_remove t t.files h (input_name t who path)) _ (file_row t (input_name t who path)) (file_short t h (input_name t who path))
after_short t who (call.TrapGo path user modes) h p = short_insert t t.files h (input_name t who path) _ (file_short t h (input_name t who path))
after_short t who (call.TrapStop path user modes) h p = short_insert t t.files h (input_name t who path) _ (file_short t h (input_name t who path))
after_short t who asked h p = h

plain_short : (t : Tree) (who : List ℕ) (asked : StoreCall) → IsShort t → IsShort (plain_tree t who asked)
plain_short t who asked h = by (fault_of t who asked) refl
  where
    by : (f : Option StoreFault) → fault_of t who asked ≡ f → IsShort (elim f [ Some fault ↦ t | None ↦ tree_after t who asked ])
    by (Some fault) e = h
    by None e = after_short t who asked h (all_passed ((not (has_user t who), NoUser) ∷ checks t who asked) e)

formatted_short : IsShort formatted
formatted_short full row there = absurd (let none : None ≡ Some row = sym (get-empty full_cmp full) ∙ there in let no : ⊥ = cc in no)

-- A STATE
abbrev pub KeepsShort : State → State → Type 0
KeepsShort s new = AreShort s → AreShort new

held_down : (h : Option Holding) → IfSome h (λ k. IsShort k.tree) → IfSome (option_map no_longer_kept h) (λ k. IsShort k.tree)
held_down None h = tt
held_down (Some k) h = h

pub short_down : (s : State) → AreShort s → AreShort (down s)
short_down s h = record { held = held_down s.holding h.held; dumped = h.dumped; opened = tt }

short_of : (s mid new : State) → new ≡ mid → KeepsShort s mid → KeepsShort s new
short_of s mid new is keeps = subst (λ (x : State). KeepsShort s x) (sym is) keeps

event_short : {A : Type 0} (f : Option StoreFault) (reply : A) (s after : State) (r : Result A StoreFault) (new : State) → KeepsShort s after → Event f reply s after r new → KeepsShort s new
event_short None reply s after r new keeps (ok, is) = short_of s after new is keeps
event_short (Some Stopped) reply s after r new keeps (err, inl is) = short_of s (down s) new is (λ h. short_down s h)
event_short (Some Stopped) reply s after r new keeps (err, inr is) = short_of s (down after) new is (λ h. short_down after (keeps h))
event_short (Some fault) reply s after r new keeps (err, is) = short_of s s new is (λ h. h)

pub format_short : (s : State) (o : Outcome) (r : Result (Unit {0}) StoreFault) (new : State) → FormatStep s o r new → KeepsShort s new
format_short s o r new event = event_short _ _ s _ r new (λ h. record { held = formatted_short; dumped = h.dumped; opened = tt }) event

-- the tree that is held
pub held_short : (s : State) (k : Holding) → s.holding ≡ Some k → AreShort s → IsShort k.tree
held_short s k holds h = subst (λ (x : Option Holding). IfSome x (λ y. IsShort y.tree)) holds h.held

adopted_short : (d : Option DumpedTree) (k : Holding) → IsShort k.tree → IsShort (adopted d k).tree
adopted_short None k h = h
adopted_short (Some d) k h = h

starts_short : (s : State) (i : Option Holding) (o : Outcome) (r : Result (Option ℕ) StoreFault) (new : State) → s.holding ≡ i → Starts s i o r new → KeepsShort s new
starts_short s i DiscRead r new holds (err, is) = short_of s s new is (λ h. h)
starts_short s None Plain r new holds (err, is) = short_of s s new is (λ h. h)
starts_short s None TapeRead r new holds (err, is) = short_of s s new is (λ h. h)
starts_short s None Cut r new holds (err, is) = short_of s s new is (λ h. h)
starts_short s (Some k) Plain r new holds event = event_short _ _ s _ r new (λ h. record { held = adopted_short (dump_adopted s k) k (held_short s k holds h); dumped = h.dumped; opened = tt }) event
starts_short s (Some k) TapeRead r new holds event = event_short _ _ s _ r new (λ h. record { held = adopted_short (dump_adopted s k) k (held_short s k holds h); dumped = h.dumped; opened = tt }) event
starts_short s (Some k) Cut r new holds event = event_short _ _ s _ r new (λ h. record { held = adopted_short (dump_adopted s k) k (held_short s k holds h); dumped = h.dumped; opened = tt }) event

pub start_short : (s : State) (o : Outcome) (r : Result (Option ℕ) StoreFault) (new : State) → StartStep s o r new → KeepsShort s new
start_short s o r new step = starts_short s s.holding o r new refl step

restores_short : (s : State) (d : Option DumpedTree) (o : Outcome) (r : Result ℕ StoreFault) (new : State) → s.dumped ≡ d → Restores s d o r new → KeepsShort s new
restores_short s None o r new has (lost, is) = short_of s s new is (λ h. h)
restores_short s (Some d) o r new has event =
    event_short _ _ s _ r new (λ h. record { held = subst (λ (x : Option DumpedTree). IfSome x (λ y. IsShort y.tree)) has h.dumped; dumped = h.dumped; opened = tt }) event

restored_short : (s : State) (f : Option StoreFault) (o : Outcome) (r : Result ℕ StoreFault) (new : State) → MatchOption f (Restores s s.dumped o r new) (λ fault. (r ≡ Err fault) × (new ≡ s)) → KeepsShort s new
restored_short s None o r new step = restores_short s s.dumped o r new refl step
restored_short s (Some fault) o r new (err, is) = short_of s s new is (λ h. h)

pub restore_short : (s : State) (o : Outcome) (r : Result ℕ StoreFault) (new : State) → RestoreStep s o r new → KeepsShort s new
restore_short s o r new step = restored_short s (restore_early s o) o r new step

pub open_short : (s : State) (k : Holding) (serial : ℕ) (o : Outcome) (r : Result ℕ StoreFault) (new : State) → s.holding ≡ Some k → OpenStep s k serial o r new → KeepsShort s new
open_short s k serial o r new holds (places, noted, event) =
    event_short _ _ s _ r new (λ h. record { held = held_short s k holds h; dumped = h.dumped; opened = held_short s k holds h }) event

pub migrate_short : (s : State) (k : Holding) (user : Option (List ℕ)) (full : Full) (o : Outcome) (r : Result Full StoreFault) (new : State) → s.holding ≡ Some k → MigrateStep s k user full o r new → KeepsShort s new
migrate_short s k user full o r new holds event = event_short _ _ s _ r new (λ h. record { held = held_short s k holds h; dumped = h.dumped; opened = h.opened }) event

pub mount_short : (s : State) (serial : ℕ) (r : Result (Unit {0}) StoreFault) (new : State) → MountStep s serial r new → KeepsShort s new
mount_short s serial r new event = event_short _ _ s _ r new (λ h. record { held = h.held; dumped = h.dumped; opened = h.opened }) event

pub unmount_short : (s : State) (serial : ℕ) (r : Result (Unit {0}) StoreFault) (new : State) → UnmountStep s serial r new → KeepsShort s new
unmount_short s serial r new event = event_short _ _ s _ r new (λ h. record { held = h.held; dumped = h.dumped; opened = h.opened }) event

-- a step of the dump
opened_short : (s : State) (d : OpenDump) → s.open_dump ≡ Some d → AreShort s → IsShort d.tree
opened_short s d opened h = subst (λ (x : Option OpenDump). IfSome x (λ y. IsShort y.tree)) opened h.opened

cut_short : (s new : State) (d : OpenDump) → UsedByCut d (down s) new → KeepsShort s new
cut_short s new d (inl is) = short_of s _ new is (λ h. short_down s h)
cut_short s new d (inr (z, inl is)) = short_of s _ new is (λ h. let low = short_down s h in record { held = low.held; dumped = low.dumped; opened = tt })
cut_short s new d (inr (z, inr is)) = short_of s _ new is (λ h. let low = short_down s h in record { held = low.held; dumped = low.dumped; opened = tt })

pub dump_short : (s : State) (k : Holding) (d : OpenDump) (o : Outcome) (r : Result DumpStepped StoreFault) (new : State) → s.holding ≡ Some k → s.open_dump ≡ Some d → DumpStep s k d o r new → KeepsShort s new
dump_short s k d o (Ok Going) new holds opened (more, cut, read, is) = short_of s _ new is (λ h. record { held = h.held; dumped = h.dumped; opened = opened_short s d opened h })
dump_short s k d o (Ok (Completed n)) new holds opened (last, cut, number, is) = short_of s _ new is (λ h. record { held = held_short s k holds h; dumped = opened_short s d opened h; opened = tt })
dump_short s k d o (Err DiscReadFault) new holds opened (read, content, is) = short_of s _ new is (λ h. record { held = h.held; dumped = h.dumped; opened = tt })
dump_short s k d o (Err Stopped) new holds opened (cut, inl used) = cut_short s new d used
dump_short s k d o (Err Stopped) new holds opened (cut, inr (last, inl is)) = short_of s _ new is (λ h. record { held = held_down s.holding h.held; dumped = opened_short s d opened h; opened = tt })
dump_short s k d o (Err Stopped) new holds opened (cut, inr (last, inr is)) = short_of s _ new is (λ h. record { held = held_short s k holds h; dumped = opened_short s d opened h; opened = tt })
dump_short s k d o (Err fault) new holds opened step = absurd step

-- a job's call
module _ (s : State) (k : Holding) (who : List ℕ) (asked : StoreCall) (holds : s.holding ≡ Some k) where
  touched_short : (d : Option OpenDump) → IfSome d (λ x. IsShort x.tree) → IfSome (option_map (touched_by s k who asked) d) (λ x. IsShort x.tree)
  touched_short None h = tt
  touched_short (Some d) h = h

  call_after_short : (until : ℕ) → KeepsShort s (after_call s k who asked until)
  call_after_short until = by (writes asked || brings_now s k who asked)
    where
      by : (b : Bool) → KeepsShort s (if b then record (commits s (held_after s k who asked until)) { open_dump = option_map (touched_by s k who asked) s.open_dump } else s)
      by true = λ h. record { held = plain_short k.tree who asked (held_short s k holds h); dumped = h.dumped; opened = touched_short s.open_dump h.opened }
      by false = λ h. h

  pub call_short : (o : Outcome) (answer : Result StoreReply StoreFault) (new : State) → CallStep s k who asked o answer new → KeepsShort s new
  call_short = call_kept (λ (x : State). KeepsShort s x) s k who asked (λ h. h) (λ h. short_down s h) (λ until h. record { held = held_short s k holds h; dumped = h.dumped; opened = tt }) call_after_short
      (λ until h. short_down (after_call s k who asked until) (call_after_short until h))

-- WHAT A CALL MAY ANSWER
kind_short : (t : Tree) (who : List ℕ) (asked : StoreCall) → IsShort t → AllByRecursion (λ c. c.0 ≡ false) ((not (has_user t who), NoUser) ∷ checks t who asked) → IsReplyTo asked (reply_to t who asked)
kind_short t who (call.Put path bytes) h p = not_above 65536 (length bytes) p.1.1.1.1.1.0
kind_short t who (call.Append path bytes) h p =
    let all = not_above 65536 (length (file_row t (input_name t who path)).bytes + length bytes) p.1.1.1.1.0 in
    omega (arith, all)
kind_short t who (call.Fetch path mode) h p = file_short t h (input_name t who path)
kind_short t who (call.NewUser user space time money) h p = tt
kind_short t who (call.Budget user kind amount) h p = tt
kind_short t who (call.Erase path) h p = tt
kind_short t who (call.Rename path to) h p = tt
kind_short t who (call.List user) h p = tt
kind_short t who (call.TrapGo path user modes) h p = tt
kind_short t who (call.TrapStop path user modes) h p = tt
kind_short t who (call.TrapCheck path user) h p = tt
kind_short t who (call.Retrieve path) h p = tt

reply_short : (t : Tree) (who : List ℕ) (asked : StoreCall) (reply : StoreReply) → IsShort t → plain_answer t who asked ≡ Ok reply → IsReplyTo asked reply
reply_short t who asked reply h is = by (fault_of t who asked) refl is
  where
    by : (f : Option StoreFault) → fault_of t who asked ≡ f → (let r : Result StoreReply StoreFault = elim f [ Some fault ↦ Err fault | None ↦ Ok (reply_to t who asked) ] in r ≡ Ok reply) → IsReplyTo asked reply
    by (Some fault) e is = absurd (let no : ⊥ = cc in no)
    by None e is = subst (λ (x : StoreReply). IsReplyTo asked x) (same_reply (reply_to t who asked) reply is) (kind_short t who asked h (all_passed ((not (has_user t who), NoUser) ∷ checks t who asked) e))

-- a call whose version isn't on the disc is one that may wait
offline_waits : (s : State) (k : Holding) (who : List ℕ) (asked : StoreCall) → is_offline s k who asked ≡ true → may_wait asked ≡ true
offline_waits s k who (call.Append path bytes) e = refl
offline_waits s k who (call.Fetch path mode) e = refl
offline_waits s k who (call.Retrieve path) e = refl
offline_waits s k who asked e = absurd (false≢true e)

pub may_answer : AnswersPlainly → (s : State) (k : Holding) (who : List ℕ) (asked : StoreCall) (o : Outcome) (answer : Answer) (new : State) → s.holding ≡ Some k → AreShort s → CallStep s k who asked o answer new → IsAnswer answer → MayAnswer asked answer
may_answer plainly s k who asked o (Ok reply) new holds h step real = reply_short k.tree who asked reply (held_short s k holds h) (plainly s k who asked o reply new holds step).0
may_answer plainly s k who asked o (Err (WaitTape serial)) new holds h step real = offline_waits s k who asked (wait_offline s k who asked o serial new step)
may_answer plainly s k who asked o (Err NoMemory) new holds h step real = absurd (false≢true (sym real))
may_answer plainly s k who asked o (Err fault) new holds h step real = tt
