-- The names in the trees of the store have no byte 10, also after each event.
-- serves: DeviceLemmas, EventLemmas, SessionTextLemmas, WorldLemmas
use Rattle.std.proofs.Common.{◌≡◌, ◌≢◌, ◌⊎◌, ◌&&◌, ◌||◌, ℕ, Bool, true, false, cond, not, List, [], ◌∷◌, Option, Some, None, IfSome, is_some, nat_lt, option_map, unwrap_or, Result, Ok, Err, MatchOption, if◌then◌else◌, map, filter, length, refl, sym, ◌∙◌, ap, subst, inl, inr}
use Rattle.std.specs.FinMap.{FinMap, entries, get, get-empty, insert, remove}
use Rattle.std.specs.List.{AllByRecursion}
use Rattle.std.specs.Ordering.{nat_cmp}
use Rattle.std.proofs.lemmas.Bool.{and_from}
use Rattle.std.proofs.lemmas.List.Elements.{All-head, All-tail}
use Rattle.g_lines.specs.Documents.{IsOneLine}
use Rattle.g_name.proofs.Order.{full_exact, full_total}
use Rattle.g_name.specs.Order.{full_cmp, same_text}
use Rattle.g_name.specs.declared.full.Full.{Full}
use Rattle.g_name.specs.declared.path.Path.{Path}
use Rattle.g_plain.proofs.Found.{inserted, removed}
use Rattle.g_plain.proofs.TreeLemmas.{entries_found}
use Rattle.g_plain.specs.Programs.{Answer}
use Rattle.g_plain.specs.PlainStep.{Checks, checks, fault_of, first_fault, plain_tree, reply_to, tree_after}
use Rattle.g_plain.specs.PlainTree.{FileRow, Tree, formatted, has_user, input_name, lengths, named, output_name}
use Rattle.g_plain.specs.declared.calls.StoreCall.{StoreCall}
use Rattle.g_plain.specs.declared.calls.StoreCall.TheVariants as call
use Rattle.g_plain.specs.declared.calls.StoreReply.{StoreReply}
use Rattle.g_plain.specs.declared.faults.StoreFault.{StoreFault}
use Rattle.g_plain.specs.declared.faults.StoreFault.TheVariants.{DiscFull, DiscReadFault, NoUser, Stopped, TapeReadFault, WaitTape}
use Rattle.g_store_model.specs.CallStep.{CallStep, LeftByRefusal, Outcome, Planned, after_call, brings_now, commits, down, early, held_after, is_cut, is_disc_read, is_offline, is_tape_read, late, len_of, need, no_longer_kept, reel_of, room_until, touched_by, version_read, wants_bytes, writes}
use Rattle.g_store_model.specs.DumpSteps.{Completed, DumpStep, Event, Going, MigrateStep, MountStep, OpenStep, Stepped as DumpStepped, UnmountStep, UsedByCut, with_used}
use Rattle.g_store_model.specs.Process.{ProcessStep, moved, with_cut}
use Rattle.g_store_model.specs.Rising.{FormatStep, RestoreStep, StartStep, adopted, dump_adopted}
use Rattle.g_store_model.specs.State.{Dumped as DumpedTree, Holding, OpenDump, Place, State, is_mounted}
use Rattle.g_run_model.proofs.KeptDumpLemmas.{KeepsDumps, changed_none}
use Rattle.g_run_model.proofs.ProcessedLemmas.{of_each}
use Rattle.g_run_model.proofs.StepLemmas.{call_kept, event_kept, restore_kept, start_kept}
use Rattle.g_laws_lines.proofs.PrintLemmas.{IsFineCall, IsFineFull, IsFinePath, IsFineReply, IsFineRow, IsNameless}
use Rattle.g_laws_lines.proofs.TextLemmas.{each_byte, is_line, not_ten}

-- texts without a byte 10, as the code of a test and as a property
pub one_line : (text : List ℕ) → IsOneLine text → is_line text ≡ true
one_line [] is = refl
one_line (b ∷ text) is = and_from _ _ (not_ten b (All-head (λ (c : ℕ). c ≢ 10) b text is)) (one_line text (All-tail (λ (c : ℕ). c ≢ 10) b text is))

-- A TREE
abbrev pub IsNamed : Full → Type 0
IsNamed full = IsOneLine full.local × IsOneLine full.lang

-- the local name and the language of each file of a tree have no byte 10
abbrev pub HasNames : Tree → Type 0
HasNames tree = (full : Full) (row : FileRow) → get tree.files full ≡ Some row → IsNamed full

-- and so have they in each tree of a state: in the current one, in the dumped one, and in that of the open dump
pub record AreNamed (s : State) : Type 0 where
  pub held : IfSome s.holding (λ k. HasNames k.tree)
  pub dumped : IfSome s.dumped (λ d. HasNames d.tree)
  pub opened : IfSome s.open_dump (λ d. HasNames d.tree)

names_insert : (t : Tree) (m : FinMap full_cmp FileRow) → HasNames (record t { files = m }) → (full : Full) (row : FileRow) → IsNamed full → HasNames (record t { files = insert m full row })
names_insert t m h full row is q x there = by (inserted full_total full_exact m full row q x there)
  where
    by : ((q ≡ full) × (x ≡ row)) ⊎ ((q ≢ full) × (get m q ≡ Some x)) → IsNamed q
    by (inl (same, e)) = subst IsNamed (sym same) is
    by (inr (other, old)) = h q x old

names_remove : (t : Tree) (m : FinMap full_cmp FileRow) → HasNames (record t { files = m }) → (full : Full) → HasNames (record t { files = remove m full })
names_remove t m h full q x there = h q x (removed full_total full_exact m full q x there).1

path_named : (who : List ℕ) (path : Path) (n : ℕ) → IsFinePath path → IsNamed (named who path n)
path_named who path n is = (each_byte path.local is.1, each_byte (unwrap_or path.lang []) is.2)

after_names : (t : Tree) (who : List ℕ) (asked : StoreCall) → IsFineCall asked → HasNames t → HasNames (tree_after t who asked)
after_names t who (call.NewUser user space time money) a h = h
after_names t who (call.Budget user kind amount) a h = h
after_names t who (call.Put path bytes) a h = names_insert t t.files h (output_name t who path) _ (path_named who path 0 a)
after_names t who (call.Append path bytes) a h = names_insert t t.files h (input_name t who path) _ (path_named who path 0 a)
after_names t who (call.Erase path) a h = names_remove t t.files h (input_name t who path)
after_names t who (call.Rename path to) a h =
    names_insert t (remove t.files (input_name t who path)) (names_remove t t.files h (input_name t who path)) (record (input_name t who path) { local = to }) _ (each_byte to a.1, (path_named who path 0 a.0).1)
after_names t who (call.TrapGo path user modes) a h = names_insert t t.files h (input_name t who path) _ (path_named who path 0 a)
after_names t who (call.TrapStop path user modes) a h = names_insert t t.files h (input_name t who path) _ (path_named who path 0 a)
after_names t who asked a h = h

plain_names : (t : Tree) (who : List ℕ) (asked : StoreCall) → IsFineCall asked → HasNames t → HasNames (plain_tree t who asked)
plain_names t who asked a h = by (fault_of t who asked)
  where
    by : (f : Option StoreFault) → HasNames (elim f [ Some fault ↦ t | None ↦ tree_after t who asked ])
    by (Some fault) = h
    by None = after_names t who asked a h

formatted_names : HasNames formatted
formatted_names full row there = absurd (let none : None ≡ Some row = sym (get-empty full_cmp full) ∙ there in let no : ⊥ = cc in no)

-- A STATE
abbrev pub KeepsNames : State → State → Type 0
KeepsNames s new = AreNamed s → AreNamed new

held_down : (h : Option Holding) → IfSome h (λ k. HasNames k.tree) → IfSome (option_map no_longer_kept h) (λ k. HasNames k.tree)
held_down None h = tt
held_down (Some k) h = h

pub names_down : (s : State) → KeepsNames s (down s)
names_down s h = record { held = held_down s.holding h.held; dumped = h.dumped; opened = tt }

names_of : (s mid new : State) → new ≡ mid → KeepsNames s mid → KeepsNames s new
names_of s mid new is keeps = subst (KeepsNames s) (sym is) keeps

event_names : {A : Type 0} (f : Option StoreFault) (reply : A) (s after : State) (r : Result A StoreFault) (new : State) → KeepsNames s after → Event f reply s after r new → KeepsNames s new
event_names f reply s after r new keeps = event_kept (KeepsNames s) f reply s after r new (λ h. h) (names_down s) keeps (λ h. names_down after (keeps h))

held_names : (s : State) (k : Holding) → s.holding ≡ Some k → AreNamed s → HasNames k.tree
held_names s k holds h = subst (λ (x : Option Holding). IfSome x (λ y. HasNames y.tree)) holds h.held

dumped_names : (s : State) (d : DumpedTree) → s.dumped ≡ Some d → AreNamed s → HasNames d.tree
dumped_names s d has h = subst (λ (x : Option DumpedTree). IfSome x (λ y. HasNames y.tree)) has h.dumped

opened_names : (s : State) (d : OpenDump) → s.open_dump ≡ Some d → AreNamed s → HasNames d.tree
opened_names s d opened h = subst (λ (x : Option OpenDump). IfSome x (λ y. HasNames y.tree)) opened h.opened

pub format_names : (s : State) (o : Outcome) (r : Result (Unit {0}) StoreFault) (new : State) → FormatStep s o r new → KeepsNames s new
format_names s o r new event = event_names _ _ s _ r new (λ h. record { held = formatted_names; dumped = h.dumped; opened = tt }) event

adopted_names : (d : Option DumpedTree) (k : Holding) → HasNames k.tree → HasNames (adopted d k).tree
adopted_names None k h = h
adopted_names (Some d) k h = h

pub start_names : (s : State) (o : Outcome) (r : Result (Option ℕ) StoreFault) (new : State) → StartStep s o r new → KeepsNames s new
start_names s =
    start_kept (KeepsNames s) s (λ h. h) (names_down s) (λ k e h. record { held = adopted_names (dump_adopted s k) k (held_names s k e h); dumped = h.dumped; opened = tt })
    (λ k e h. record { held = adopted_names (dump_adopted s k) k (held_names s k e h); dumped = h.dumped; opened = tt })

pub restore_names : (s : State) (o : Outcome) (r : Result ℕ StoreFault) (new : State) → RestoreStep s o r new → KeepsNames s new
restore_names s =
    restore_kept (KeepsNames s) s (λ h. h) (names_down s) (λ d e h. record { held = dumped_names s d e h; dumped = h.dumped; opened = tt })
    (λ d e h. record { held = dumped_names s d e h; dumped = h.dumped; opened = tt })

pub open_names : (s : State) (k : Holding) (serial : ℕ) (o : Outcome) (r : Result ℕ StoreFault) (new : State) → s.holding ≡ Some k → OpenStep s k serial o r new → KeepsNames s new
open_names s k serial o r new holds (places, noted, event) =
    event_names _ _ s _ r new (λ h. record { held = held_names s k holds h; dumped = h.dumped; opened = held_names s k holds h }) event

pub migrate_names : (s : State) (k : Holding) (user : Option (List ℕ)) (full : Full) (o : Outcome) (r : Result Full StoreFault) (new : State) → s.holding ≡ Some k → MigrateStep s k user full o r new → KeepsNames s new
migrate_names s k user full o r new holds event = event_names _ _ s _ r new (λ h. record { held = held_names s k holds h; dumped = h.dumped; opened = h.opened }) event

pub mount_names : (s : State) (serial : ℕ) (r : Result (Unit {0}) StoreFault) (new : State) → MountStep s serial r new → KeepsNames s new
mount_names s serial r new event = event_names _ _ s _ r new (λ h. record { held = h.held; dumped = h.dumped; opened = h.opened }) event

pub unmount_names : (s : State) (serial : ℕ) (r : Result (Unit {0}) StoreFault) (new : State) → UnmountStep s serial r new → KeepsNames s new
unmount_names s serial r new event = event_names _ _ s _ r new (λ h. record { held = h.held; dumped = h.dumped; opened = h.opened }) event

-- a step of the dump
cut_names : (s new : State) (d : OpenDump) → UsedByCut d (down s) new → KeepsNames s new
cut_names s new d (inl is) = names_of s _ new is (names_down s)
cut_names s new d (inr (z, inl is)) = names_of s _ new is (λ h. let low = names_down s h in record { held = low.held; dumped = low.dumped; opened = tt })
cut_names s new d (inr (z, inr is)) = names_of s _ new is (λ h. let low = names_down s h in record { held = low.held; dumped = low.dumped; opened = tt })

pub dump_names : (s : State) (k : Holding) (d : OpenDump) (o : Outcome) (r : Result DumpStepped StoreFault) (new : State) → s.holding ≡ Some k → s.open_dump ≡ Some d → DumpStep s k d o r new → KeepsNames s new
dump_names s k d o (Ok Going) new holds opened (more, cut, read, is) = names_of s _ new is (λ h. record { held = h.held; dumped = h.dumped; opened = opened_names s d opened h })
dump_names s k d o (Ok (Completed n)) new holds opened (last, cut, number, is) = names_of s _ new is (λ h. record { held = held_names s k holds h; dumped = opened_names s d opened h; opened = tt })
dump_names s k d o (Err DiscReadFault) new holds opened (read, content, is) = names_of s _ new is (λ h. record { held = h.held; dumped = h.dumped; opened = tt })
dump_names s k d o (Err Stopped) new holds opened (cut, inl used) = cut_names s new d used
dump_names s k d o (Err Stopped) new holds opened (cut, inr (last, inl is)) = names_of s _ new is (λ h. record { held = held_down s.holding h.held; dumped = opened_names s d opened h; opened = tt })
dump_names s k d o (Err Stopped) new holds opened (cut, inr (last, inr is)) = names_of s _ new is (λ h. record { held = held_names s k holds h; dumped = opened_names s d opened h; opened = tt })
dump_names s k d o (Err fault) new holds opened step = absurd step

-- PROCESS
same_names : (k : Holding) (d : DumpedTree) → d.tree ≡ k.tree → HasNames k.tree → HasNames d.tree
same_names k d is h = subst HasNames (sym is) h

pub process_names : (s : State) (k : Holding) (serial : ℕ) (o : Outcome) (r : Result ℕ StoreFault) (new : State) → s.holding ≡ Some k → ProcessStep s k serial o r new → KeepsNames s new
process_names s k serial o r new holds step =
    of_each (KeepsNames s) s k serial
    (record {
      same = λ h. h;
      gone = names_down s;
      noted_up = λ used h. record { held = held_names s k holds h; dumped = h.dumped; opened = h.opened };
      noted_down = λ used h. record { held = held_names s k holds h; dumped = h.dumped; opened = tt };
      marked_down = λ d is h. record { held = held_names s k holds h; dumped = same_names k d is (held_names s k holds h); opened = tt };
      moved_up = λ places d until is h. record { held = held_names s k holds h; dumped = same_names k d is (held_names s k holds h); opened = h.opened };
      moved_down = λ places d until cut is h. by_cut places d until cut is (held_names s k holds h);
    }) o r new step
  where
    by_cut : (places : FinMap nat_cmp Place) (d : DumpedTree) (until : ℕ) (cut : Option (ℕ × Bool)) → d.tree ≡ k.tree → HasNames k.tree → AreNamed (down (with_cut cut (moved s k serial places d until)))
    by_cut places d until None is h = record { held = h; dumped = same_names k d is h; opened = tt }
    by_cut places d until (Some c) is h = record { held = h; dumped = same_names k d is h; opened = tt }

-- a step of the dump leaves a tree dumped if there is a dump, also after a failure
some_dumped : (s new : State) (d : DumpedTree) → new.dumped ≡ Some d → KeepsDumps s new
some_dumped s new d is has = λ none. absurd (let both : None ≡ Some d = sym none ∙ is in let no : ⊥ = cc in no)

cut_dumps : (s new : State) (d : OpenDump) → UsedByCut d (down s) new → KeepsDumps s new
cut_dumps s new d (inl is) = subst (KeepsDumps s) (sym is) (λ has. has)
cut_dumps s new d (inr (z, inl is)) = subst (KeepsDumps s) (sym is) (λ has none. changed_none (with_used true) (λ row. refl) d.serial s.reels ∙ has none)
cut_dumps s new d (inr (z, inr is)) = subst (KeepsDumps s) (sym is) (λ has none. changed_none (with_used false) (λ row. refl) d.serial s.reels ∙ has none)

pub dump_dumps : (s : State) (k : Holding) (d : OpenDump) (o : Outcome) (r : Result DumpStepped StoreFault) (new : State) → DumpStep s k d o r new → KeepsDumps s new
dump_dumps s k d o (Ok Going) new (more, cut, read, is) = subst (KeepsDumps s) (sym is) (λ has none. changed_none (with_used true) (λ row. refl) d.serial s.reels ∙ has none)
dump_dumps s k d o (Ok (Completed n)) new (last, cut, number, is) = some_dumped s new (record { number = d.number; tree = d.tree; places = d.places; own = d.own }) (ap (λ (x : State). x.dumped) is)
dump_dumps s k d o (Err DiscReadFault) new (read, content, is) = subst (KeepsDumps s) (sym is) (λ has. has)
dump_dumps s k d o (Err Stopped) new (cut, inl used) = cut_dumps s new d used
dump_dumps s k d o (Err Stopped) new (cut, inr (last, inl is)) = some_dumped s new (record { number = d.number; tree = d.tree; places = d.places; own = d.own }) (ap (λ (x : State). x.dumped) is)
dump_dumps s k d o (Err Stopped) new (cut, inr (last, inr is)) = some_dumped s new (record { number = d.number; tree = d.tree; places = d.places; own = d.own }) (ap (λ (x : State). x.dumped) is)
dump_dumps s k d o (Err fault) new step = absurd step

-- A CALL
pub nameless_first : (cs : Checks) → AllByRecursion (λ c. IsNameless c.1) cs → IfSome (first_fault cs) IsNameless
nameless_first [] all = tt
nameless_first (c ∷ cs) all = by c.0 (nameless_first cs all.1)
  where
    by : (b : Bool) → IfSome (first_fault cs) IsNameless → IfSome (if b then Some c.1 else first_fault cs) IsNameless
    by true rest = all.0
    by false rest = rest

nameless_checks : (t : Tree) (who : List ℕ) (asked : StoreCall) → AllByRecursion (λ c. IsNameless c.1) (checks t who asked)
nameless_checks t who (call.NewUser user space time money) = (tt, (tt, tt))
nameless_checks t who (call.Budget user kind amount) = (tt, (tt, tt))
nameless_checks t who (call.List user) = (tt, (tt, tt))
nameless_checks t who (call.Put path bytes) = (tt, (tt, (tt, (tt, (tt, (tt, (tt, (tt, tt))))))))
nameless_checks t who (call.Append path bytes) = (tt, (tt, (tt, (tt, (tt, (tt, tt))))))
nameless_checks t who (call.Fetch path m) = (tt, (tt, (tt, tt)))
nameless_checks t who (call.Retrieve path) = (tt, (tt, (tt, tt)))
nameless_checks t who (call.Erase path) = (tt, (tt, (tt, tt)))
nameless_checks t who (call.Rename path to) = (tt, (tt, (tt, (tt, tt))))
nameless_checks t who (call.TrapGo path user modes) = (tt, (tt, (tt, (tt, (tt, tt)))))
nameless_checks t who (call.TrapStop path user modes) = (tt, (tt, (tt, (tt, tt))))
nameless_checks t who (call.TrapCheck path user) = (tt, (tt, (tt, (tt, tt))))

nameless_or : (f : Option StoreFault) → IfSome f IsNameless → IsNameless (unwrap_or f Stopped)
nameless_or None h = tt
nameless_or (Some f) h = h

rows_named : (t : Tree) → HasNames t → (user : List ℕ) (es : List (Full × FileRow)) → AllByRecursion (λ e. get t.files e.0 ≡ Some e.1) es → AllByRecursion IsFineRow (lengths user es)
rows_named t h user [] all = tt
rows_named t h user (e ∷ es) all = by (same_text e.0.user user) (rows_named t h user es all.1)
  where
    fine : IsFineRow (e.0, length e.1.bytes)
    fine = (one_line e.0.local (h e.0 e.1 all.0).0, one_line e.0.lang (h e.0 e.1 all.0).1)

    by : (b : Bool) → AllByRecursion IsFineRow (lengths user es) → AllByRecursion IsFineRow (map (λ (x : Full × FileRow). (x.0, length x.1.bytes)) (cond b (e ∷ filter (λ x. same_text x.0.user user) es) (filter (λ x. same_text x.0.user user) es)))
    by true rest = (fine, rest)
    by false rest = rest

pub path_full : (who : List ℕ) (path : Path) (n : ℕ) → is_line who ≡ true → IsFinePath path → IsFineFull (named who path n)
path_full who path n whose is = (by path.user is.0, is.1, is.2)
  where
    by : (o : Option (List ℕ)) → is_line (unwrap_or o []) ≡ true → is_line (unwrap_or o who) ≡ true
    by None h = whose
    by (Some user) h = h

reply_fine : (t : Tree) (who : List ℕ) (asked : StoreCall) → is_line who ≡ true → IsFineCall asked → HasNames t → IsFineReply (reply_to t who asked)
reply_fine t who (call.NewUser user space time money) whose a h = tt
reply_fine t who (call.Budget user kind amount) whose a h = tt
reply_fine t who (call.Put path bytes) whose a h = path_full who path 0 whose a
reply_fine t who (call.Append path bytes) whose a h = path_full who path 0 whose a
reply_fine t who (call.Fetch path m) whose a h = path_full who path 0 whose a
reply_fine t who (call.Erase path) whose a h = path_full who path 0 whose a
reply_fine t who (call.Rename path to) whose a h = let full = path_full who path 0 whose a.0 in (full.0, a.1, full.2)
reply_fine t who (call.List user) whose a h = rows_named t h user (entries t.files) (entries_found full_total t.files)
reply_fine t who (call.TrapGo path user modes) whose a h = tt
reply_fine t who (call.TrapStop path user modes) whose a h = tt
reply_fine t who (call.TrapCheck path user) whose a h = tt
reply_fine t who (call.Retrieve path) whose a h = path_full who path 0 whose a

-- the answer names no file and no user in a refusal, and in a reply only names without a byte 10
abbrev pub IsNamedAnswer : Answer → Type 0
IsNamedAnswer (Ok reply) = IsFineReply reply
IsNamedAnswer (Err fault) = IsNameless fault

module _ (s : State) (k : Holding) (who : List ℕ) (asked : StoreCall) (holds : s.holding ≡ Some k) (a : IsFineCall asked) where
  touched_names : (d : Option OpenDump) → IfSome d (λ x. HasNames x.tree) → IfSome (option_map (touched_by s k who asked) d) (λ x. HasNames x.tree)
  touched_names None h = tt
  touched_names (Some d) h = h

  call_after_names : (until : ℕ) → KeepsNames s (after_call s k who asked until)
  call_after_names until = by (writes asked || brings_now s k who asked)
    where
      by : (b : Bool) → KeepsNames s (if b then record (commits s (held_after s k who asked until)) { open_dump = option_map (touched_by s k who asked) s.open_dump } else s)
      by true = λ h. record { held = plain_names k.tree who asked a (held_names s k holds h); dumped = h.dumped; opened = touched_names s.open_dump h.opened }
      by false = λ h. h

  pub call_names : (o : Outcome) (answer : Result StoreReply StoreFault) (new : State) → CallStep s k who asked o answer new → KeepsNames s new
  call_names =
      call_kept (KeepsNames s) s k who asked (λ h. h) (names_down s) (λ until h. record { held = held_names s k holds h; dumped = h.dumped; opened = tt }) call_after_names
      (λ until h. names_down (after_call s k who asked until) (call_after_names until h))

  -- WHAT IT ANSWERS
  module _ (whose : is_line who ≡ true) (h : AreNamed s) where
    late_nameless : (o : Outcome) (until : ℕ) → IfSome (late s k who asked o until) IsNameless
    late_nameless o until =
        nameless_first (
        (nat_lt (room_until s k who asked until) (need s k who asked), DiscFull (need s k who asked) (room_until s k who asked until))
        ∷ (is_disc_read o && wants_bytes asked && not (is_offline s k who asked) && nat_lt 0 (len_of s k who asked (version_read k.tree who asked)), DiscReadFault)
        ∷ (is_cut o && (writes asked || brings_now s k who asked), Stopped)
        ∷ []) (tt, (tt, (tt, tt)))

    early_nameless : (o : Outcome) → IfSome (early s k who asked o) IsNameless
    early_nameless o =
        nameless_first (
        (is_some (fault_of k.tree who asked), unwrap_or (fault_of k.tree who asked) Stopped)
        ∷ (is_offline s k who asked && not (is_mounted s (reel_of s k who asked)), WaitTape (reel_of s k who asked))
        ∷ (is_tape_read o && is_offline s k who asked, TapeReadFault)
        ∷ [])
        (nameless_or (fault_of k.tree who asked) (nameless_first ((not (has_user k.tree who), NoUser) ∷ checks k.tree who asked) (tt, nameless_checks k.tree who asked)), (tt, (tt, tt)))

    is_answer : (answer given : Answer) → answer ≡ given → IsNamedAnswer given → IsNamedAnswer answer
    is_answer answer given is named_answer = subst IsNamedAnswer (sym is) named_answer

    late_named : (o : Outcome) (until : ℕ) (f : Option StoreFault) (answer : Answer) (new : State) → IfSome f IsNameless
        → MatchOption f ((answer ≡ Ok (reply_to k.tree who asked)) × (new ≡ after_call s k who asked until)) (λ fault. (answer ≡ Err fault) × LeftByRefusal s k who asked o until fault new) → IsNamedAnswer answer
    late_named o until None answer new nameless (ok, is) = is_answer answer (Ok (reply_to k.tree who asked)) ok (reply_fine k.tree who asked whose a (held_names s k holds h))
    late_named o until (Some f) answer new nameless (err, left) = is_answer answer (Err f) err nameless

    early_named : (o : Outcome) (f : Option StoreFault) (answer : Answer) (new : State) → IfSome f IsNameless
        → MatchOption f (Planned s k who asked o answer new) (λ fault. (answer ≡ Err fault) × (new ≡ s)) → IsNamedAnswer answer
    early_named o None answer new nameless plan = late_named o plan.until (late s k who asked o plan.until) answer new (late_nameless o plan.until) plan.step
    early_named o (Some f) answer new nameless (err, is) = is_answer answer (Err f) err nameless

    pub call_named : (o : Outcome) (answer : Answer) (new : State) → CallStep s k who asked o answer new → IsNamedAnswer answer
    call_named o answer new step =
        early_named o (early s k who asked o) answer new
        (early_nameless o) step
