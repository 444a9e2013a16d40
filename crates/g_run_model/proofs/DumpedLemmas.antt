-- What is dumped, and which dump is open, after each move.
-- serves: dumped_is_what_a_dump_opened_on
use Rattle.std.proofs.Common.{◌≡◌, ℕ, List, [], ◌∷◌, ◌++◌, Option, Some, None, refl, sym, ◌∙◌, ap, subst, inl, inr}
use Rattle.std.specs.Prelude.{◌⊎◌, Bool, true, false, nat_lt, not, ◌||◌, ◌==◌, ◌+◌, ◌-◌, ◌^◌, Result, Ok, Err, option_map, MatchBool, MatchOption, if◌then◌else◌, is_some, codes}
use Rattle.std.specs.Fmt.{decimal}
use Rattle.std.specs.Fn.{Shared}
use Rattle.std.specs.FinMap.{FinMap}
use Rattle.std.specs.Ordering.{nat_cmp}
use Rattle.std.proofs.lemmas.List.{append_assoc, append-nil}
use Rattle.std.proofs.lemmas.Option.{some_pair_parts}
use denote.Ref.{Bor}
use Rattle.g_rules.specs.declared.tariff.Usage.{Usage}
use Rattle.g_rules.specs.declared.tariff.Charge.{Charge}
use Rattle.g_rules.specs.declared.rule.Standing.{Standing}
use Rattle.g_monitor.specs.Parts.{full_text}
use Rattle.g_name.specs.declared.full.Full.{Full}
use Rattle.g_name.specs.declared.path.Path.{Path}
use Rattle.g_plain.specs.declared.calls.StoreCall.{StoreCall}
use Rattle.g_plain.specs.declared.calls.StoreReply.{StoreReply}
use Rattle.g_plain.specs.declared.faults.StoreFault.{StoreFault}
use Rattle.g_plain.specs.declared.faults.StoreFault.TheVariants.{CountersSpent, DiscReadFault, DumpOpen, NoTape, NotMounted, NotStarted, Running, Stopped, TapeFull, TapeReadFault}
use Rattle.g_plain.specs.PlainTree.{Tree}
use Rattle.g_plain.specs.PlainStep.{first_fault}
use Rattle.g_store_model.specs.State.{State, Holding, OpenDump, Place, Dumped as DumpedTree, is_mounted, lacks}
use Rattle.g_store_model.specs.CallStep.{Outcome, Plain, DiscRead, TapeRead, Cut, CallStep, after_call, brings_now, commits, down, held_after, is_cut, is_tape_read, touched_by, writes}
use Rattle.g_store_model.specs.DumpSteps.{Completed, DumpStep, Event, Going, Stepped as DumpStepped, UsedByCut, dump_begun, dump_needs, open_number, open_refuses, opening, tape_room}
use Rattle.g_store_model.specs.Rising.{FormatStep, StartStep, RestoreStep, Starts, Restores, restore_early}
use Rattle.g_store_model.specs.Laws.{tree_in}
use Rattle.g_script.specs.declared.operator.Operator.{Operator}
use Rattle.g_script.specs.declared.operator.Operator.TheVariants as line
use Rattle.g_run_model.specs.World.{World, start, shows}
use Rattle.g_run_model.specs.Texts.{started_text, tape_text, dump_text, processed_text}
use Rattle.g_run_model.specs.Events.{IsTold, IsOpening, IsMigration, IsProcessing}
use Rattle.g_run_model.specs.Lines.{LineGives, is_process, tells, up_with, now_stands, line_refused, shut_with}
use Rattle.g_run_model.specs.Moves.{Move, TakeLine, Dumped, Begin, Answered, TurnOver, Ticked, Over, Step, Run}
use Rattle.g_run_model.specs.Laws.{DumpedIsOpened, OpenedIn, ProcessedIn}
use Rattle.g_run_model.proofs.StepLemmas.{call_kept, tree_held}
use Rattle.g_run_model.proofs.TreeLemmas.{dump_store, job_by, login_by, told_stands, told_up, turn_store, typed_by}
use Rattle.g_job.specs.Terminal.{logged_out, typed_to}
use Rattle.g_run_model.proofs.TurnLemmas.{run_append}
use Rattle.g_run_model.proofs.ProcessedLemmas.{of_each}
use Rattle.g_store_model.specs.Process.{ProcessStep, with_cut, moved as process_moved}

-- number and tree of an open dump
abbrev about : Option OpenDump → Option (ℕ × Tree)
about opened = option_map (λ (d : OpenDump). let p : ℕ × Tree = (d.number, d.tree) in p) opened

-- what is dumped stays, and no other dump is open
abbrev Keeps : State → State → Type 0
Keeps s new = (new.dumped ≡ s.dumped) × ((about new.open_dump ≡ None) ⊎ (about new.open_dump ≡ about s.open_dump))

-- a dump opens on the tree that there is
abbrev Opens : State → State → Type 0
Opens s new = (d : OpenDump) × (s.open_dump ≡ None) × (new.open_dump ≡ Some d) × (new.dumped ≡ s.dumped) × (tree_in s ≡ Some d.tree)

-- the open dump is what is dumped, and open no more
abbrev Completes : State → State → Type 0
Completes s new = (x : DumpedTree) × (new.dumped ≡ Some x) × (about s.open_dump ≡ Some (x.number, x.tree)) × (about new.open_dump ≡ None)

-- PROCESS installs the current tree as the dumped one, and opens no dump
abbrev Renews : State → State → Type 0
Renews s new = (x : DumpedTree) × (new.dumped ≡ Some x) × (tree_in s ≡ Some x.tree) × ((about new.open_dump ≡ None) ⊎ (about new.open_dump ≡ about s.open_dump))

same_state : (s new : State) → new ≡ s → Keeps s new
same_state s new is = (ap (λ (x : State). x.dumped) is, inr (ap (λ (x : State). about x.open_dump) is))

-- a state that is down, of one with the same dump
gone_down : (s after new : State) → after.dumped ≡ s.dumped → new ≡ down after → Keeps s new
gone_down s after new same is = (ap (λ (x : State). x.dumped) is ∙ same, inl (ap (λ (x : State). about x.open_dump) is))

moved : (s after new : State) → Keeps s after → new ≡ after → Keeps s new
moved s after new keeps is = subst (λ (x : State). Keeps s x) (sym is) keeps

event_dumps : {A : Type 0} (f : Option StoreFault) (reply : A) (s after : State) (r : Result A StoreFault) (new : State) → Keeps s after → Event f reply s after r new → Keeps s new
event_dumps None reply s after r new keeps (ok, is) = moved s after new keeps is
event_dumps (Some Stopped) reply s after r new keeps (err, inl is) = gone_down s s new refl is
event_dumps (Some Stopped) reply s after r new keeps (err, inr is) = gone_down s after new keeps.0 is
event_dumps (Some fault) reply s after r new keeps (err, is) = same_state s new is

start_dumps : (s : State) (h : Option Holding) (o : Outcome) (r : Result (Option ℕ) StoreFault) (new : State) → Starts s h o r new → Keeps s new
start_dumps s h DiscRead r new (err, is) = same_state s new is
start_dumps s None Plain r new (err, is) = same_state s new is
start_dumps s None TapeRead r new (err, is) = same_state s new is
start_dumps s None Cut r new (err, is) = same_state s new is
start_dumps s (Some k) Plain r new event = event_dumps _ _ s _ r new (refl, inl refl) event
start_dumps s (Some k) TapeRead r new event = event_dumps _ _ s _ r new (refl, inl refl) event
start_dumps s (Some k) Cut r new event = event_dumps _ _ s _ r new (refl, inl refl) event

restores_dumps : (s : State) (d : Option DumpedTree) (o : Outcome) (r : Result ℕ StoreFault) (new : State) → Restores s d o r new → Keeps s new
restores_dumps s None o r new (lost, is) = same_state s new is
restores_dumps s (Some d) o r new event = event_dumps _ _ s _ r new (refl, inl refl) event

restore_dumps : (s : State) (f : Option StoreFault) (o : Outcome) (r : Result ℕ StoreFault) (new : State) → MatchOption f (Restores s s.dumped o r new) (λ fault. (r ≡ Err fault) × (new ≡ s)) → Keeps s new
restore_dumps s None o r new step = restores_dumps s s.dumped o r new step
restore_dumps s (Some fault) o r new (err, is) = same_state s new is

-- the opening of a dump
third_none : (a b c : Bool) (f g h : StoreFault) (more : List (Bool × StoreFault)) → first_fault ((a, f) ∷ (b, g) ∷ (c, h) ∷ more) ≡ None → c ≡ false
third_none true b c f g h more e = absurd (let nothing : ⊥ = cc in nothing)
third_none false true c f g h more e = absurd (let nothing : ⊥ = cc in nothing)
third_none false false true f g h more e = absurd (let nothing : ⊥ = cc in nothing)
third_none false false false f g h more e = refl

none_open : (d : Option OpenDump) → is_some d ≡ false → d ≡ None
none_open None e = refl
none_open (Some d) e = absurd (let nothing : ⊥ = cc in nothing)

opened_by : (s : State) (k : Holding) (serial : ℕ) (o : Outcome) (places : FinMap nat_cmp Place) (r : Result ℕ StoreFault) (new : State) → s.holding ≡ Some k
    → (f : Option StoreFault) → open_refuses s k serial o ≡ f → Event f (k.last + 1) s (opening s k serial places) r new → Keeps s new ⊎ Opens s new
opened_by s k serial o places r new holds None e (ok, is) =
    let d : OpenDump = dump_begun s k serial places in
    inr (
      d,
      none_open s.open_dump
          (third_none (lacks s serial) (not (is_mounted s serial)) (is_some s.open_dump) NoTape NotMounted (DumpOpen (open_number s.open_dump))
          ((k.last == 2 ^ 62 - 1, CountersSpent) ∷ (is_tape_read o, TapeReadFault) ∷ (nat_lt (tape_room s serial) (dump_needs k), TapeFull (dump_needs k) (tape_room s serial)) ∷ (is_cut o, Stopped) ∷ []) e),
      ap (λ (x : State). x.open_dump) is,
      ap (λ (x : State). x.dumped) is,
      tree_held s k holds,
    )
opened_by s k serial o places r new holds (Some Stopped) e (err, inl is) = inl (gone_down s s new refl is)
opened_by s k serial o places r new holds (Some Stopped) e (err, inr is) = inl (gone_down s (opening s k serial places) new refl is)
opened_by s k serial o places r new holds (Some fault) e (err, is) = inl (same_state s new is)

-- a step of the open dump
used_dumps : (s new : State) (d : OpenDump) → UsedByCut d (down s) new → Keeps s new
used_dumps s new d (inl is) = gone_down s s new refl is
used_dumps s new d (inr (z, inl is)) = (ap (λ (x : State). x.dumped) is, inl (ap (λ (x : State). about x.open_dump) is))
used_dumps s new d (inr (z, inr is)) = (ap (λ (x : State). x.dumped) is, inl (ap (λ (x : State). about x.open_dump) is))

whole_dump : OpenDump → DumpedTree
whole_dump d = record { number = d.number; tree = d.tree; places = d.places; own = d.own }

step_dumps : (s : State) (k : Holding) (d : OpenDump) (o : Outcome) (r : Result DumpStepped StoreFault) (new : State) → s.open_dump ≡ Some d → DumpStep s k d o r new → Keeps s new ⊎ Completes s new
unfolding whole_dump
step_dumps s k d o (Ok Going) new opened (more, cut, read, is) = inl (ap (λ (x : State). x.dumped) is, inr (ap (λ (x : State). about x.open_dump) is ∙ sym (ap about opened)))
step_dumps s k d o (Ok (Completed n)) new opened (last, cut, number, is) = inr (whole_dump d, ap (λ (x : State). x.dumped) is, ap about opened, ap (λ (x : State). about x.open_dump) is)
step_dumps s k d o (Err DiscReadFault) new opened (read, content, is) = inl (ap (λ (x : State). x.dumped) is, inl (ap (λ (x : State). about x.open_dump) is))
step_dumps s k d o (Err Stopped) new opened (cut, inl used) = inl (used_dumps s new d used)
step_dumps s k d o (Err Stopped) new opened (cut, inr (last, inl is)) = inr (whole_dump d, ap (λ (x : State). x.dumped) is, ap about opened, ap (λ (x : State). about x.open_dump) is)
step_dumps s k d o (Err Stopped) new opened (cut, inr (last, inr is)) = inr (whole_dump d, ap (λ (x : State). x.dumped) is, ap about opened, ap (λ (x : State). about x.open_dump) is)
step_dumps s k d o (Err fault) new opened step = absurd step

-- a job's call
module _ (s : State) (k : Holding) (who : List ℕ) (call : StoreCall) where
  touched : (d : Option OpenDump) → about (option_map (touched_by s k who call) d) ≡ about d
  touched None = refl
  touched (Some d) = refl

  after_dumps : (until : ℕ) (b : Bool) → Keeps s (if b then record (commits s (held_after s k who call until)) { open_dump = option_map (touched_by s k who call) s.open_dump } else s)
  after_dumps until true = (refl, inr (touched s.open_dump))
  after_dumps until false = (refl, inr refl)

  called : (until : ℕ) → Keeps s (after_call s k who call until)
  called until = after_dumps until (writes call || brings_now s k who call)

  call_dumps : (o : Outcome) (answer : Result StoreReply StoreFault) (new : State) → CallStep s k who call o answer new → Keeps s new
  call_dumps = call_kept (λ (x : State). Keeps s x) s k who call (refl, inr refl) (refl, inl refl) (λ until. (refl, inl refl)) called (λ until. ((called until).0, inl refl))

-- the world's store after a line
stays : (w new v : World) → new ≡ v → v.store ≡ w.store → Keeps w.store new.store
stays w new v is same = same_state w.store new.store (ap (λ (x : World). x.store) is ∙ same)

goes : (w new v : World) (s : State) → new ≡ v → v.store ≡ s → Keeps w.store s → Keeps w.store new.store
goes w new v s is same keeps = moved w.store s new.store keeps (ap (λ (x : World). x.store) is ∙ same)

rises_dumps : {R : Type 0} (Does : State → Outcome → Result R StoreFault → State → Type 0) (said : R → List ℕ) (o : Outcome) (w new : World)
    → ((r : Result R StoreFault) (s : State) → Does w.store o r s → Keeps w.store s) → (b : Bool)
    → MatchBool (not b) ((r : Result R StoreFault) × (s : State) × (Does w.store o r s × IsTold o r) × (new ≡ tells (λ x t v. up_with (said x) t v) r s w)) ((o ≡ Plain) × (new ≡ line_refused Running w))
    → Keeps w.store new.store
rises_dumps Does said o w new keeps true (plain, is) = stays w new (line_refused Running w) is refl
rises_dumps Does said o w new keeps false (r, s, (does, says_so), is) = goes w new (tells (λ x t v. up_with (said x) t v) r s w) s is (told_up said r s w) (keeps r s does)

shut_at : (d : Option OpenDump) (w new : World) → new ≡ shut_with d w → Keeps w.store new.store
shut_at (Some dump) w new is = stays w new _ is refl
shut_at None w new is = gone_down w.store w.store new.store refl (ap (λ (x : World). x.store) is)

shut_dumps : (w new : World) (b : Bool) → new ≡ (if b then shut_with w.store.open_dump w else line_refused NotStarted w) → Keeps w.store new.store
shut_dumps w new true shuts = shut_at w.store.open_dump w new shuts
shut_dumps w new false is = stays w new (line_refused NotStarted w) is refl

migration_dumps : (o : Outcome) (w new : World) (path : Path) (b : Bool)
    → MatchBool b ((r : Result Full StoreFault) × (s : State) × IsMigration w.store path o r s × (new ≡ tells (λ x t v. now_stands (codes "MIGRATED " ++ full_text x) t v) r s w)) ((o ≡ Plain) × (new ≡ line_refused NotStarted w))
    → Keeps w.store new.store
migration_dumps o w new path true (r, s, (k, holds, event, says_so), is) =
    goes w new (tells (λ x t v. now_stands (codes "MIGRATED " ++ full_text x) t v) r s w) s is (told_stands (λ (x : Full). codes "MIGRATED " ++ full_text x) r s w) (event_dumps _ _ w.store _ r s (refl, inr refl) event)
migration_dumps o w new path false (plain, is) = stays w new (line_refused NotStarted w) is refl

opening_dumps : (o : Outcome) (w new : World) (serial : ℕ) (b : Bool)
    → MatchBool b ((r : Result ℕ StoreFault) × (s : State) × IsOpening w.store serial o r s × (new ≡ tells (λ n t v. now_stands (dump_text n (codes "OPENED")) t v) r s w)) ((o ≡ Plain) × (new ≡ line_refused NotStarted w))
    → Keeps w.store new.store ⊎ Opens w.store new.store
opening_dumps o w new serial true (r, s, (k, holds, (places, noted, event), says_so), is) =
    let at_s : new.store ≡ s = ap (λ (x : World). x.store) is ∙ told_stands (λ n. dump_text n (codes "OPENED")) r s w in
    subst (λ (x : State). Keeps w.store x ⊎ Opens w.store x) (sym at_s) (opened_by w.store k serial o places r s holds (open_refuses w.store k serial o) refl event)
opening_dumps o w new serial false (plain, is) = inl (stays w new (line_refused NotStarted w) is refl)

-- a PROCESS
KeepsOrRenews : State → State → Type 0
KeepsOrRenews s x = Keeps s x ⊎ Renews s x

process_dumps : (s : State) (k : Holding) (serial : ℕ) (o : Outcome) (r : Result ℕ StoreFault) (new : State) → s.holding ≡ Some k → ProcessStep s k serial o r new → Keeps s new ⊎ Renews s new
unfolding KeepsOrRenews
process_dumps s k serial o r new holds step =
    of_each (KeepsOrRenews s) s k serial
    (record {
      same = inl (refl, inr refl);
      gone = inl (refl, inl refl);
      noted_up = λ used. inl (refl, inr refl);
      noted_down = λ used. inl (refl, inl refl);
      marked_down = λ d is. inr (d, refl, tree d is, inl refl);
      moved_up = λ places d until is. inr (d, refl, tree d is, inr refl);
      moved_down = λ places d until cut is. by_cut places d until cut is;
    }) o r new step
  where
    tree : (d : DumpedTree) → d.tree ≡ k.tree → tree_in s ≡ Some d.tree
    tree d is = tree_held s k holds ∙ ap Some (sym is)

    by_cut : (places : FinMap nat_cmp Place) (d : DumpedTree) (until : ℕ) (cut : Option (ℕ × Bool)) → d.tree ≡ k.tree → KeepsOrRenews s (down (with_cut cut (process_moved s k serial places d until)))
    by_cut places d until None is = inr (d, refl, tree d is, inl refl)
    by_cut places d until (Some c) is = inr (d, refl, tree d is, inl refl)

processing_dumps : (o : Outcome) (w new : World) (serial : ℕ) (b : Bool)
    → MatchBool b ((r : Result ℕ StoreFault) × (s : State) × IsProcessing w.store serial o r s × (new ≡ tells (λ n t v. now_stands (processed_text serial n) t v) r s w)) ((o ≡ Plain) × (new ≡ line_refused NotStarted w))
    → Keeps w.store new.store ⊎ Renews w.store new.store
processing_dumps o w new serial true (r, s, (k, holds, step, says_so), is) =
    let at_s : new.store ≡ s = ap (λ (x : World). x.store) is ∙ told_stands (processed_text serial) r s w in
    subst (λ (x : State). Keeps w.store x ⊎ Renews w.store x) (sym at_s) (process_dumps w.store k serial o r s holds step)
processing_dumps o w new serial false (plain, is) = inl (stays w new (line_refused NotStarted w) is refl)

-- for a line: only a DUMP opens a dump, only a PROCESS installs another dumped tree
abbrev LineDumps : Operator → State → State → Type 0
LineDumps what s new = (Keeps s new ⊎ Opens s new) ⊎ ((is_process what ≡ true) × Renews s new)

renewed : (serial : ℕ) (s new : State) → Keeps s new ⊎ Renews s new → LineDumps (line.Process serial) s new
renewed serial s new (inl keeps) = inl (inl keeps)
renewed serial s new (inr renews) = inr (refl, renews)

line_dumps : (o : Outcome) (what : Operator) (w new : World) → LineGives o what w new → LineDumps what w.store new.store
line_dumps o line.Format w new gives = inl (inl (rises_dumps FormatStep (λ r. codes "FORMATTED") o w new (λ r s does. event_dumps _ _ w.store _ r s (refl, inl refl) does) w.store.up gives))
line_dumps o line.Start w new gives = inl (inl (rises_dumps StartStep started_text o w new (λ r s does. start_dumps w.store w.store.holding o r s does) w.store.up gives))
line_dumps o line.Restore w new gives = inl (inl (rises_dumps RestoreStep (λ n. codes "RESTORED FROM DUMP " ++ decimal n) o w new (λ r s does. restore_dumps w.store (restore_early w.store o) o r s does) w.store.up gives))
line_dumps o line.Shut w new (plain, gives) = inl (inl (shut_dumps w new w.store.up gives))
line_dumps o (line.Job name user time money lines) w new (plain, is) = inl (inl (stays w new _ is (job_by o name user time money lines w w.store.up)))
line_dumps o (line.Mount serial) w new (r, s, (plain, does), is) = inl (inl (goes w new _ s is (told_stands (λ _. tape_text serial (codes "MOUNTED")) r s w) (event_dumps _ _ w.store _ r s (refl, inr refl) does)))
line_dumps o (line.Unmount serial) w new (r, s, (plain, does), is) = inl (inl (goes w new _ s is (told_stands (λ _. tape_text serial (codes "UNMOUNTED")) r s w) (event_dumps _ _ w.store _ r s (refl, inr refl) does)))
line_dumps o (line.Dump serial) w new gives = inl (opening_dumps o w new serial w.store.up gives)
line_dumps o (line.Process serial) w new gives = renewed serial w.store new.store (processing_dumps o w new serial w.store.up gives)
line_dumps o (line.Migrate path) w new gives = inl (inl (migration_dumps o w new path w.store.up gives))
line_dumps o (line.StopDisc k) w new (plain, is) = inl (inl (stays w new _ is refl))
line_dumps o (line.StopTape k) w new (plain, is) = inl (inl (stays w new _ is refl))
line_dumps o (line.Login t user time) w new (plain, is) = inl (inl (stays w new _ is (login_by o t user time w w.store.up)))
line_dumps o (line.Typed t text) w new (plain, is) = inl (inl (stays w new _ is (typed_by t (typed_to text) w w.store.up)))
line_dumps o (line.Logout t) w new (plain, is) = inl (inl (stays w new _ is (typed_by t logged_out w w.store.up)))

pair_parts : (n m : ℕ) (t u : Tree) → (let one : Option (ℕ × Tree) = Some (n, t) in one ≡ Some (m, u)) → (n ≡ m) × (t ≡ u)
pair_parts n m t u e = some_pair_parts n m t u e

not_both : (p : ℕ × Tree) (o : Option (ℕ × Tree)) → o ≡ None → o ≡ Some p → ⊥
not_both p o none some = let both : (let one : Option (ℕ × Tree) = None in one ≡ Some p) = sym none ∙ some in cc

module _ {F U : Type 0} (tariffs : Shared F (Bor Usage × Unit {0}) Charge) (tariff : F) (rules : Shared U (Bor Standing × Unit {0}) ℕ) (rule : U) where
  -- what a move does to what is dumped
  abbrev MoveDumps : World → Move → World → Type 0
  MoveDumps w move new = (Keeps w.store new.store ⊎ Completes w.store new.store)
      ⊎ ((tape : Bool) × (o : Outcome) × (move ≡ TakeLine tape o) × (Opens w.store new.store ⊎ ((tape ≡ true) × Renews w.store new.store)))

  move_dumps : (w new : World) (move : Move) → Step tariffs tariff rules rule w move new → MoveDumps w move new
  move_dumps w new (TakeLine tape o) (next, rest, lines, between, idle, due, is_tape, gives) =
      by_line (line_dumps o next.what (record w { lines = rest }) new gives)
    where
      by_line : LineDumps next.what w.store new.store → MoveDumps w (TakeLine tape o) new
      by_line (inl (inl keeps)) = inl (inl keeps)
      by_line (inl (inr opens)) = inr (tape, o, refl, inl opens)
      by_line (inr (is, renews)) = inr (tape, o, refl, inr (is_tape ∙ is, renews))
  move_dumps w new (Dumped o) (between, idle, undue, dumping, (r, s, (k, d, holds, opened, step, says_so), is)) =
      let at_s : new.store ≡ s = ap (λ (x : World). x.store) is ∙ dump_store _ r s w in
      inl (subst (λ (x : State). Keeps w.store x ⊎ Completes w.store x) (sym at_s) (step_dumps w.store k d o r s opened step))
  move_dumps w new (Begin number) (idle, undue, ready, (place, job, chosen, there, number_is, is)) = inl (inl (stays w new _ is refl))
  move_dumps w new (Answered o) (number, call, more, job, answer, s, asks, here, (k, holds, step, says_so), real, is) =
      inl (inl (goes w new _ s is refl (call_dumps w.store k job.user call o answer s step)))
  move_dumps w new (TurnOver number charge) (work, job, turn, after, asks, here, priced, ends, is) = inl (inl (stays w new _ is (turn_store after turn (shows job after w))))
  move_dumps w new Ticked (idle, phase, is) = inl (inl (stays w new _ is refl))
  move_dumps w new Over (between, idle, lines, nothing, over, is) = inl (inl (stays w new _ is refl))

  -- a DUMP of these moves opened the dump of this number on this tree
  abbrev From : World → List Move → ℕ → Tree → Type 0
  From begin moves number tree = (front : List Move) × (back : List Move) × (tape : Bool) × (o : Outcome) × (w : World) × (opened : World) × (dump : OpenDump)
      × (moves ≡ front ++ (TakeLine tape o ∷ back)) × Run tariffs tariff rules rule begin front w × Step tariffs tariff rules rule w (TakeLine tape o) opened
      × (w.store.open_dump ≡ None) × (opened.store.open_dump ≡ Some dump) × (dump.number ≡ number) × (tree_in w.store ≡ Some tree)

  grown : (begin : World) (moves : List Move) (number : ℕ) (tree : Tree) (move : Move) → From begin moves number tree → From begin (moves ++ move ∷ []) number tree
  grown begin moves number tree move (front, back, tape, o, w, opened, dump, is, before, step, idle, some, numbered, held) =
      (front, back ++ move ∷ [], tape, o, w, opened, dump, ap (λ (ms : List Move). ms ++ move ∷ []) is ∙ append_assoc front (TakeLine tape o ∷ back) (move ∷ []), before, step, idle, some, numbered, held)

  -- or a PROCESS of them wrote it
  abbrev FromProcess : World → List Move → DumpedTree → Type 0
  FromProcess begin moves x = (front : List Move) × (back : List Move) × (o : Outcome) × (w : World) × (behind : World)
      × (moves ≡ front ++ (TakeLine true o ∷ back)) × Run tariffs tariff rules rule begin front w × Step tariffs tariff rules rule w (TakeLine true o) behind
      × (behind.store.dumped ≡ Some x) × (tree_in w.store ≡ Some x.tree)

  Came : World → List Move → DumpedTree → Type 0
  Came begin moves x = From begin moves x.number x.tree ⊎ FromProcess begin moves x

  came_still : (begin : World) (moves : List Move) (x : DumpedTree) (move : Move) → Came begin moves x → Came begin (moves ++ move ∷ []) x
  unfolding Came
  came_still begin moves x move (inl from) = inl (grown begin moves x.number x.tree move from)
  came_still begin moves x move (inr (front, back, o, w, behind, is, before, step, dumped, tree)) =
      inr (front, back ++ move ∷ [], o, w, behind, ap (λ (ms : List Move). ms ++ move ∷ []) is ∙ append_assoc front (TakeLine true o ∷ back) (move ∷ []), before, step, dumped, tree)

  -- after these moves: the origin of what is dumped and of what is open
  record Tracks (begin : World) (moves : List Move) (w : World) : Type 0 where
    pub run : Run tariffs tariff rules rule begin moves w
    pub dumped : (w.store.dumped ≡ begin.store.dumped) ⊎ ((x : DumpedTree) × (w.store.dumped ≡ Some x) × Came begin moves x)
    pub opened : (about w.store.open_dump ≡ None) ⊎ ((number : ℕ) × (tree : Tree) × (about w.store.open_dump ≡ Some (number, tree)) × From begin moves number tree)

  module _ (begin : World) (moves : List Move) (w new : World) (move : Move) (tracks : Tracks begin moves w) (step : Step tariffs tariff rules rule w move new) where
    still_dumped : new.store.dumped ≡ w.store.dumped → (new.store.dumped ≡ begin.store.dumped) ⊎ ((x : DumpedTree) × (new.store.dumped ≡ Some x) × Came begin (moves ++ move ∷ []) x)
    still_dumped same = elim tracks.dumped [
      | inl e ↦ inl (same ∙ e)
      | inr found ↦ inr (found.0, same ∙ found.1, came_still begin moves found.0 move found.2)
    ]

    still_opened : about new.store.open_dump ≡ about w.store.open_dump
        → (about new.store.open_dump ≡ None) ⊎ ((number : ℕ) × (tree : Tree) × (about new.store.open_dump ≡ Some (number, tree)) × From begin (moves ++ move ∷ []) number tree)
    still_opened same = elim tracks.opened [
      | inl e ↦ inl (same ∙ e)
      | inr found ↦ inr (found.0, found.1, same ∙ found.2, grown begin moves found.0 found.1 move found.3)
    ]

    now_open : (about new.store.open_dump ≡ None) ⊎ (about new.store.open_dump ≡ about w.store.open_dump)
        → (about new.store.open_dump ≡ None) ⊎ ((number : ℕ) × (tree : Tree) × (about new.store.open_dump ≡ Some (number, tree)) × From begin (moves ++ move ∷ []) number tree)
    now_open (inl none) = inl none
    now_open (inr still) = still_opened still

    now_dumped : (x : DumpedTree) → about w.store.open_dump ≡ Some (x.number, x.tree) → From begin (moves ++ move ∷ []) x.number x.tree
    now_dumped x is = elim tracks.opened [
      | inl e ↦ absurd (not_both (x.number, x.tree) (about w.store.open_dump) e is)
      | inr found ↦
          let parts = pair_parts found.0 x.number found.1 x.tree (sym found.2 ∙ is) in
          subst (λ (n : ℕ). From begin (moves ++ move ∷ []) n x.tree) parts.0
          (subst (λ (t : Tree). From begin (moves ++ move ∷ []) found.0 t) parts.1 (grown begin moves found.0 found.1 move found.3))
    ]

    by_dump : (x : DumpedTree) → From begin (moves ++ move ∷ []) x.number x.tree → Came begin (moves ++ move ∷ []) x
    unfolding Came
    by_dump x from = inl from

    by_process : (x : DumpedTree) → FromProcess begin (moves ++ move ∷ []) x → Came begin (moves ++ move ∷ []) x
    unfolding Came
    by_process x from = inr from

    goes_on : Run tariffs tariff rules rule begin (moves ++ move ∷ []) new
    goes_on = run_append tariffs tariff rules rule begin moves (move ∷ []) w new tracks.run (new, step, refl)

    by_move : MoveDumps w move new → Tracks begin (moves ++ move ∷ []) new
    by_move (inl (inl (same, inl none))) = record { run = goes_on; dumped = still_dumped same; opened = inl none }
    by_move (inl (inl (same, inr still))) = record { run = goes_on; dumped = still_dumped same; opened = still_opened still }
    by_move (inl (inr (x, is, was, none))) = record { run = goes_on; dumped = inr (x, is, by_dump x (now_dumped x was)); opened = inl none }
    by_move (inr (tape, o, named, inr (takes, (x, is, tree, behind)))) = let same : move ≡ TakeLine true o = named ∙ ap (λ (b : Bool). TakeLine b o) takes in record {
      run = goes_on;
      dumped = inr (
        x,
        is,
        by_process x (moves, [], o, w, new, ap (λ (m : Move). moves ++ m ∷ []) same, tracks.run, subst (λ (m : Move). Step tariffs tariff rules rule w m new) same step, is, tree),
      );
      opened = now_open behind;
    }
    by_move (inr (tape, o, named, inl (d, none, some, same, tree))) = record {
      run = goes_on;
      dumped = still_dumped same;
      opened = inr (
        d.number,
        d.tree,
        ap about some,
        (moves, [], tape, o, w, new, d, ap (λ (m : Move). moves ++ m ∷ []) named, tracks.run, subst (λ (m : Move). Step tariffs tariff rules rule w m new) named step, none, some, refl, tree),
      );
    }

  tracked : (begin w last : World) (front moves : List Move) → Tracks begin front w → Run tariffs tariff rules rule w moves last → Tracks begin (front ++ moves) last
  tracked begin w last front [] tracks run =
      subst (λ (ms : List Move). Tracks begin ms last) (sym (append-nil front)) (subst (λ (v : World). Tracks begin front v) (sym run) tracks)
  tracked begin w last front (move ∷ moves) tracks (mid, step, rest) =
      subst (λ (ms : List Move). Tracks begin ms last) (append_assoc front (move ∷ []) moves)
      (tracked begin mid last (front ++ move ∷ []) moves (by_move begin front w mid move tracks step (move_dumps w mid move step)) rest)

  opened_in : (begin : World) (moves : List Move) (x : DumpedTree) → From begin moves x.number x.tree → OpenedIn tariffs tariff rules rule begin moves x
  opened_in begin moves x (front, back, tape, o, w, opened, dump, all, before, step, idle, some, number, tree) = record {
    front = front;
    back = back;
    tape = tape;
    outcome = o;
    before = w;
    opened = opened;
    dump = dump;
    moves_are = all;
    run = before;
    step = step;
    none = idle;
    dump_is = some;
    number = sym number;
    tree = tree;
  }

  processed_in : (begin : World) (moves : List Move) (x : DumpedTree) → FromProcess begin moves x → ProcessedIn tariffs tariff rules rule begin moves x
  processed_in begin moves x (front, back, o, w, behind, all, before, step, dumped, tree) = record {
    front = front;
    back = back;
    outcome = o;
    before = w;
    behind = behind;
    moves_are = all;
    run = before;
    step = step;
    dumped_is = dumped;
    tree = tree;
  }

  came_in : (begin : World) (moves : List Move) (x : DumpedTree) → Came begin moves x → OpenedIn tariffs tariff rules rule begin moves x ⊎ ProcessedIn tariffs tariff rules rule begin moves x
  unfolding Came
  came_in begin moves x (inl from) = inl (opened_in begin moves x from)
  came_in begin moves x (inr from) = inr (processed_in begin moves x from)

  -- WHAT IS DUMPED is what was, or the tree on which a DUMP of the run opened, or the one that a PROCESS of it met
  pub dumped_is_opened : DumpedIsOpened tariffs tariff rules rule
  dumped_is_opened lines bad s moves last none run =
      let begin = start lines bad s in
      let first : Tracks begin [] begin = record { run = refl; dumped = inl refl; opened = inl (ap about none) } in
      elim (tracked begin begin last [] moves first run).dumped [
        | inl e ↦ inl e
        | inr (x, is, came) ↦ inr (x, is, came_in begin moves x came)
      ]
