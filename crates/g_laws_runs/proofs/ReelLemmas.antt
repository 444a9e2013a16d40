-- The reels of a rack, move by move.
-- serves: completed_dumps_stay, process_leaves_lists
use Rattle.std.proofs.Common.{◌≡◌, ℕ, ◌+◌, ◌≤◌, List, [], ◌∷◌, ◌++◌, Option, Some, None, refl, sym, ◌∙◌, ap, subst, inl, inr, arith, append-nil, append_assoc, length, length-append}
use Rattle.std.specs.Prelude.{not, ◌==◌, ◌||◌, Bool, true, false, Result, Ok, Err, MatchBool, MatchOption, if◌then◌else◌, sum_by, codes, ◌⊎◌}
use Rattle.std.proofs.lemmas.List.Sums.{sum_by-cons}
use Rattle.std.specs.Fmt.{decimal}
use Rattle.std.specs.Fn.{Shared}
use denote.Ref.{Bor}
use Rattle.g_rules.specs.declared.tariff.Charge.{Charge}
use Rattle.g_rules.specs.declared.tariff.Usage.{Usage}
use Rattle.g_rules.specs.declared.rule.Standing.{Standing}
use Rattle.g_monitor.specs.Parts.{full_text}
use Rattle.g_plain.specs.declared.calls.StoreCall.{StoreCall}
use Rattle.g_plain.specs.declared.calls.StoreReply.{StoreReply}
use Rattle.g_plain.specs.declared.faults.StoreFault.{StoreFault}
use Rattle.g_plain.specs.declared.faults.StoreFault.TheVariants.{DiscReadFault, NotStarted, Running, Stopped}
use Rattle.g_script.specs.declared.operator.Operator.{Operator}
use Rattle.g_script.specs.declared.operator.Operator.TheVariants as line
use Rattle.g_store_model.specs.CallStep.{Cut, DiscRead, Outcome, Plain, TapeRead, after_call, brings_now, writes, CallStep}
use Rattle.g_store_model.specs.DumpSteps.{Completed, DumpStep, Event, Going, Stepped, shelved, with_mounted, with_shelved, with_used}
use Rattle.g_store_model.specs.Rising.{FormatStep, RestoreStep, Restores, StartStep, Starts, restore_early}
use Rattle.g_store_model.specs.State.{Dumped as DumpedTree, Holding, OpenDump, ReelRow, Shelved, State, with_reel}
use Rattle.g_run_model.specs.Events.{IsMigration, IsOpening, IsTold, IsProcessing}
use Rattle.g_run_model.specs.Lines.{LineGives, shut_with, is_process, line_refused, now_stands, tells, up_with}
use Rattle.g_run_model.specs.Moves.{Answered, Begin, Dumped, Move, Over, Step, TakeLine, Ticked, TurnOver}
use Rattle.g_run_model.specs.Texts.{dump_text, started_text, tape_text, processed_text}
use Rattle.g_run_model.specs.World.{World, shows}
use Rattle.g_run_model.proofs.TreeLemmas.{dump_store, job_by, login_by, told_stands, told_up, turn_store, typed_by}
use Rattle.g_job.specs.Terminal.{logged_out, typed_to}
use Rattle.g_laws_runs.specs.Dumps.{dump_steps}
use Rattle.g_laws_runs.specs.Reels.{AreGrown, CompletedDumpsStay, IsGrown, ProcessLeavesLists}
use Rattle.g_run_model.specs.Laws.{takes_process}
use Rattle.g_store_model.specs.Process.{ProcessStep}
use Rattle.g_store_model.specs.ProcessLaws.{IsBefore, IsBehind, KeepsDumps, ProcessKeeps}
use Rattle.std.specs.List.{AllZip}
use Rattle.std.proofs.lemmas.Bool.{false≢true}
use Rattle.g_script.specs.declared.operator.Timed.{Timed}
use Rattle.g_run_model.proofs.StepLemmas.{call_kept}

-- a reel that is unchanged, or was mounted, unmounted or written
row_same : (n : ℕ) (r q : ReelRow) → q.serial ≡ r.serial → q.capacity ≡ r.capacity → q.dumps ≡ r.dumps → IsGrown n r q
row_same n r q serial capacity dumps = record { serial = serial; capacity = capacity; more = []; dumps = dumps ∙ sym (append-nil r.dumps); few = omega arith }

row_more : (d : Shelved) (r : ReelRow) → IsGrown 1 r (with_shelved d r)
row_more d r = record { serial = refl; capacity = refl; more = d ∷ []; dumps = refl; few = omega arith }

row_then : (m n p : ℕ) → m + n ≤ p → (a b c : ReelRow) → IsGrown m a b → IsGrown n b c → IsGrown p a c
row_then m n p within a b c first later = record {
  serial = later.serial ∙ first.serial;
  capacity = later.capacity ∙ first.capacity;
  more = first.more ++ later.more;
  dumps = later.dumps ∙ ap (λ (ds : List Shelved). ds ++ later.more) first.dumps ∙ append_assoc a.dumps first.more later.more;
  few =
      let one = first.few in
      let two = later.few in
      let both : length (first.more ++ later.more) ≡ length first.more + length later.more = length-append first.more later.more in
      omega (arith, within, one, two, both);
}

-- and all the reels
rows_itself : (n : ℕ) (rows : List ReelRow) → AreGrown n rows rows
rows_itself n [] = refl
rows_itself n (r ∷ rs) = (row_same n r r refl refl refl, rows_itself n rs)

rows_same : (n : ℕ) (old new : List ReelRow) → new ≡ old → AreGrown n old new
rows_same n old new is = subst (λ (rows : List ReelRow). AreGrown n old rows) (sym is) (rows_itself n old)

rows_then : (m n p : ℕ) → m + n ≤ p → (a b c : List ReelRow) → AreGrown m a b → AreGrown n b c → AreGrown p a c
rows_then m n p within [] b c first later = subst (λ (rows : List ReelRow). AreGrown n rows c) first later
rows_then m n p within (x ∷ a) [] c first later = absurd first
rows_then m n p within (x ∷ a) (y ∷ b) [] first later = absurd later
rows_then m n p within (x ∷ a) (y ∷ b) (z ∷ c) first later = (row_then m n p within x y z first.0 later.0, rows_then m n p within a b c first.1 later.1)

rows_with : (n : ℕ) (serial : ℕ) (f : ReelRow → ReelRow) → ((r : ReelRow) → IsGrown n r (f r)) → (rows : List ReelRow) → AreGrown n rows (with_reel serial f rows)
rows_with n serial f grows [] = refl
rows_with n serial f grows (r ∷ rs) = by (serial == r.serial) (rows_with n serial f grows rs)
  where
    by : (b : Bool) → AreGrown n rs (with_reel serial f rs) → AreGrown n (r ∷ rs) (if b then f r ∷ rs else r ∷ with_reel serial f rs)
    by true rest = (grows r, rows_itself n rs)
    by false rest = (row_same n r r refl refl refl, rest)

-- FROM ONE STATE TO THE NEXT
abbrev Grows : ℕ → State → State → Type 0
Grows n s new = AreGrown n s.reels new.reels

at_state : (n : ℕ) (s t new : State) → new ≡ t → Grows n s t → Grows n s new
at_state n s t new is it = subst (λ (x : State). Grows n s x) (sym is) it

still : (n : ℕ) (s new : State) → new.reels ≡ s.reels → Grows n s new
still n s new same = rows_same n s.reels new.reels same

event_grows : {A : Type 0} (f : Option StoreFault) (reply : A) (s after : State) (r : Result A StoreFault) (new : State) → Grows 0 s after → Event f reply s after r new → Grows 0 s new
event_grows None reply s after r new done (ok, is) = at_state 0 s after new is done
event_grows (Some Stopped) reply s after r new done (err, inl is) = still 0 s new (ap (λ (x : State). x.reels) is)
event_grows (Some Stopped) reply s after r new done (err, inr is) = subst (λ (rows : List ReelRow). AreGrown 0 s.reels rows) (sym (ap (λ (x : State). x.reels) is)) done
event_grows (Some fault) reply s after r new done (err, is) = at_state 0 s s new is (rows_itself 0 s.reels)

start_grows : (s : State) (h : Option Holding) (o : Outcome) (r : Result (Option ℕ) StoreFault) (new : State) → Starts s h o r new → Grows 0 s new
start_grows s h DiscRead r new (err, is) = still 0 s new (ap (λ (x : State). x.reels) is)
start_grows s None Plain r new (err, is) = still 0 s new (ap (λ (x : State). x.reels) is)
start_grows s None TapeRead r new (err, is) = still 0 s new (ap (λ (x : State). x.reels) is)
start_grows s None Cut r new (err, is) = still 0 s new (ap (λ (x : State). x.reels) is)
start_grows s (Some k) Plain r new event = event_grows _ _ s _ r new (rows_itself 0 s.reels) event
start_grows s (Some k) TapeRead r new event = event_grows _ _ s _ r new (rows_itself 0 s.reels) event
start_grows s (Some k) Cut r new event = event_grows _ _ s _ r new (rows_itself 0 s.reels) event

restores_grow : (s : State) (t : Option DumpedTree) (o : Outcome) (r : Result ℕ StoreFault) (new : State) → Restores s t o r new → Grows 0 s new
restores_grow s None o r new (lost, is) = still 0 s new (ap (λ (x : State). x.reels) is)
restores_grow s (Some t) o r new event = event_grows _ _ s _ r new (rows_itself 0 s.reels) event

restore_grows : (s : State) (f : Option StoreFault) (o : Outcome) (r : Result ℕ StoreFault) (new : State)
    → MatchOption f (Restores s s.dumped o r new) (λ fault. (r ≡ Err fault) × (new ≡ s)) → Grows 0 s new
restore_grows s None o r new step = restores_grow s s.dumped o r new step
restore_grows s (Some fault) o r new (err, is) = still 0 s new (ap (λ (x : State). x.reels) is)

-- for the world's store after a line
told : (w new v : World) (s : State) → new ≡ v → v.store ≡ s → Grows 0 w.store s → Grows 0 w.store new.store
told w new v s is same it = at_state 0 w.store s new.store (ap (λ (x : World). x.store) is ∙ same) it

quiet : (w new v : World) → new ≡ v → v.store ≡ w.store → Grows 0 w.store new.store
quiet w new v is same = told w new v w.store is same (rows_itself 0 w.store.reels)

rises_grows : {R : Type 0} (Does : State → Outcome → Result R StoreFault → State → Type 0) (said : R → List ℕ) (o : Outcome) (w new : World)
    → ((r : Result R StoreFault) (s : State) → Does w.store o r s → Grows 0 w.store s) → (b : Bool)
    → MatchBool (not b) ((r : Result R StoreFault) × (s : State) × (Does w.store o r s × IsTold o r) × (new ≡ tells (λ x t v. up_with (said x) t v) r s w)) ((o ≡ Plain) × (new ≡ line_refused Running w))
    → Grows 0 w.store new.store
rises_grows Does said o w new leaves true (plain, is) = quiet w new (line_refused Running w) is refl
rises_grows Does said o w new leaves false (r, s, (does, says_so), is) = told w new (tells (λ x t v. up_with (said x) t v) r s w) s is (told_up said r s w) (leaves r s does)

needs_grows : {R : Type 0} (Does : Result R StoreFault → State → Type 0) (said : R → List ℕ) (o : Outcome) (w new : World)
    → ((r : Result R StoreFault) (s : State) → Does r s → Grows 0 w.store s) → (b : Bool)
    → MatchBool b ((r : Result R StoreFault) × (s : State) × Does r s × (new ≡ tells (λ x t v. now_stands (said x) t v) r s w)) ((o ≡ Plain) × (new ≡ line_refused NotStarted w))
    → Grows 0 w.store new.store
needs_grows Does said o w new leaves true (r, s, does, is) = told w new (tells (λ x t v. now_stands (said x) t v) r s w) s is (told_stands said r s w) (leaves r s does)
needs_grows Does said o w new leaves false (plain, is) = quiet w new (line_refused NotStarted w) is refl

shut_grows : (e : Option OpenDump) (w new : World) → new ≡ shut_with e w → Grows 0 w.store new.store
shut_grows (Some dump) w new is = quiet w new _ is refl
shut_grows None w new is = still 0 w.store new.store (ap (λ (x : World). x.store.reels) is)

shut_by : (w new : World) (b : Bool) → new ≡ (if b then shut_with w.store.open_dump w else line_refused NotStarted w) → Grows 0 w.store new.store
shut_by w new true shuts = shut_grows w.store.open_dump w new shuts
shut_by w new false is = quiet w new (line_refused NotStarted w) is refl

turned_grows : (serial : ℕ) (b : Bool) (s : State) → (let t : State = record s { reels = with_reel serial (with_mounted b) s.reels } in Grows 0 s t)
turned_grows serial b s = rows_with 0 serial (with_mounted b) (λ r. row_same 0 r (with_mounted b r) refl refl refl) s.reels

-- A LINE
line_grows : (o : Outcome) (what : Operator) (w new : World) → is_process what ≡ false → LineGives o what w new → Grows 0 w.store new.store
line_grows o (line.Process serial) w new isnt gives = absurd (false≢true (sym isnt))
line_grows o line.Format w new isnt gives = rises_grows FormatStep (λ r. codes "FORMATTED") o w new (λ r s does. event_grows _ _ w.store _ r s (rows_itself 0 w.store.reels) does) w.store.up gives
line_grows o line.Start w new isnt gives = rises_grows StartStep started_text o w new (λ r s does. start_grows w.store w.store.holding o r s does) w.store.up gives
line_grows o line.Restore w new isnt gives =
    rises_grows RestoreStep (λ n. codes "RESTORED FROM DUMP " ++ decimal n) o w new (λ r s does. restore_grows w.store (restore_early w.store o) o r s does) w.store.up gives
line_grows o line.Shut w new isnt (plain, gives) = shut_by w new w.store.up gives
line_grows o (line.Job name user time money lines) w new isnt (plain, is) = quiet w new _ is (job_by o name user time money lines w w.store.up)
line_grows o (line.Mount serial) w new isnt (r, s, (plain, does), is) =
    told w new _ s is (told_stands (λ _. tape_text serial (codes "MOUNTED")) r s w) (event_grows _ _ w.store _ r s (turned_grows serial true w.store) does)
line_grows o (line.Unmount serial) w new isnt (r, s, (plain, does), is) =
    told w new _ s is (told_stands (λ _. tape_text serial (codes "UNMOUNTED")) r s w) (event_grows _ _ w.store _ r s (turned_grows serial false w.store) does)
line_grows o (line.Dump serial) w new isnt gives =
    needs_grows (λ r s. IsOpening w.store serial o r s) (λ n. dump_text n (codes "OPENED")) o w new
    (λ r s (k, holds, (places, noted, event), says_so). event_grows _ _ w.store _ r s (rows_itself 0 w.store.reels) event) w.store.up gives
line_grows o (line.Migrate path) w new isnt gives =
    needs_grows (λ r s. IsMigration w.store path o r s) (λ full. codes "MIGRATED " ++ full_text full) o w new
    (λ r s (k, holds, event, says_so). event_grows _ _ w.store _ r s (rows_itself 0 w.store.reels) event) w.store.up gives
line_grows o (line.StopDisc k) w new isnt (plain, is) = quiet w new _ is refl
line_grows o (line.StopTape k) w new isnt (plain, is) = quiet w new _ is refl
line_grows o (line.Login t user time) w new isnt (plain, is) = quiet w new _ is (login_by o t user time w w.store.up)
line_grows o (line.Typed t text) w new isnt (plain, is) = quiet w new _ is (typed_by t (typed_to text) w w.store.up)
line_grows o (line.Logout t) w new isnt (plain, is) = quiet w new _ is (typed_by t logged_out w w.store.up)

-- A CALL leaves the reels
either : (b : Bool) (t s : State) → t.reels ≡ s.reels → (if b then t else s).reels ≡ s.reels
either true t s same = same
either false t s same = refl

call_after : (s : State) (k : Holding) (who : List ℕ) (call : StoreCall) (until : ℕ) → (after_call s k who call until).reels ≡ s.reels
call_after s k who call until = either (writes call || brings_now s k who call) _ s refl

call_leaves : (s : State) (k : Holding) (who : List ℕ) (call : StoreCall) (o : Outcome) (answer : Result StoreReply StoreFault) (new : State) → CallStep s k who call o answer new → new.reels ≡ s.reels
call_leaves s k who call = call_kept (λ (x : State). x.reels ≡ s.reels) s k who call refl refl (λ until. refl) (call_after s k who call) (call_after s k who call)

-- A STEP OF THE OPEN DUMP
module _ (d : OpenDump) where
  used_grows : (n : ℕ) (b : Bool) (rows : List ReelRow) → AreGrown n rows (with_reel d.serial (with_used b) rows)
  used_grows n b rows = rows_with n d.serial (with_used b) (λ r. row_same n r (with_used b r) refl refl refl) rows

  -- completed, on its reel
  marked_grows : (rows : List ReelRow) → AreGrown 1 rows (with_reel d.serial (with_used true) (with_reel d.serial (with_shelved (shelved d)) rows))
  marked_grows rows =
      let mid = with_reel d.serial (with_shelved (shelved d)) rows in
      rows_then 1 0 1 (omega arith) rows mid (with_reel d.serial (with_used true) mid) (rows_with 1 d.serial (with_shelved (shelved d)) (row_more (shelved d)) rows) (used_grows 0 true mid)

  as_rows : (s new : State) (rows : List ReelRow) → new.reels ≡ rows → AreGrown 1 s.reels rows → Grows 1 s new
  as_rows s new rows is it = subst (λ (x : List ReelRow). AreGrown 1 s.reels x) (sym is) it

  step_grows : (s : State) (k : Holding) (o : Outcome) (r : Result Stepped StoreFault) (new : State) → DumpStep s k d o r new → Grows 1 s new
  step_grows s k o (Ok Going) new (more, whole, read, is) = as_rows s new _ (ap (λ (x : State). x.reels) is) (used_grows 1 true s.reels)
  step_grows s k o (Ok (Completed n)) new (last, whole, number, is) = as_rows s new _ (ap (λ (x : State). x.reels) is) (marked_grows s.reels)
  step_grows s k o (Err DiscReadFault) new (read, writes, is) = still 1 s new (ap (λ (x : State). x.reels) is)
  step_grows s k o (Err Stopped) new (cut, inl (inl is)) = still 1 s new (ap (λ (x : State). x.reels) is)
  step_grows s k o (Err Stopped) new (cut, inl (inr (first, inl is))) = as_rows s new _ (ap (λ (x : State). x.reels) is) (used_grows 1 true s.reels)
  step_grows s k o (Err Stopped) new (cut, inl (inr (first, inr is))) = as_rows s new _ (ap (λ (x : State). x.reels) is) (used_grows 1 false s.reels)
  step_grows s k o (Err Stopped) new (cut, inr (last, inl is)) = as_rows s new _ (ap (λ (x : State). x.reels) is) (marked_grows s.reels)
  step_grows s k o (Err Stopped) new (cut, inr (last, inr is)) = as_rows s new _ (ap (λ (x : State). x.reels) is) (marked_grows s.reels)
  step_grows s k o (Err fault) new step = absurd step

all_kept : (rs : List ReelRow) → AllZip KeepsDumps rs rs
all_kept [] = tt
all_kept (r ∷ rs) = (record { reel = record { serial = refl; capacity = refl; mounted = refl }; dumps = refl }, all_kept rs)

same_head : (a b : Timed) (us vs : List Timed) → (let one : List Timed = a ∷ us in one ≡ b ∷ vs) → a ≡ b
same_head a b us vs e = cc

same_holding : (k h : Holding) → (let one : Option Holding = Some k in one ≡ Some h) → k ≡ h
same_holding k h e = cc

module _ {F U : Type 0} (tariffs : Shared F (Bor Usage × Unit {0}) Charge) (tariff : F) (rules : Shared U (Bor Standing × Unit {0}) ℕ) (rule : U) where
  -- A MOVE
  move_grows : (w new : World) (move : Move) → takes_process move ≡ false → Step tariffs tariff rules rule w move new → Grows (dump_steps move) w.store new.store
  move_grows w new (TakeLine tape o) isnt (next, rest, lines, between, idle, due, is_tape, gives) =
      line_grows o next.what (record w { lines = rest }) new (sym is_tape ∙ isnt) gives
  move_grows w new (Dumped o) isnt (between, idle, undue, dumping, (r, s, (k, d, holds, opened, step, says_so), is)) =
      at_state 1 w.store s new.store (ap (λ (x : World). x.store) is ∙ dump_store _ r s w) (step_grows d w.store k o r s step)
  move_grows w new (Begin number) isnt (idle, undue, ready, (place, job, chosen, there, number_is, is)) = quiet w new _ is refl
  move_grows w new (Answered o) isnt (number, call, more, job, answer, s, asks, here, (k, holds, step, says_so), real, is) =
      told w new _ s is refl (still 0 w.store s (call_leaves w.store k job.user call o answer s step))
  move_grows w new (TurnOver number charge) isnt (work, job, turn, after, asks, here, priced, ends, is) = quiet w new _ is (turn_store after turn (shows job after w))
  move_grows w new Ticked isnt (idle, phase, is) = quiet w new _ is refl
  move_grows w new Over isnt (between, idle, lines, nothing, over, is) = quiet w new _ is refl

  -- A RUN
  pub completed_stay : CompletedDumpsStay tariffs tariff rules rule
  completed_stay w last [] run = still 0 w.store last.store (ap (λ (x : World). x.store.reels) run)
  completed_stay w last (move ∷ moves) (mid, isnt, step, run) =
      let both : sum_by dump_steps (move ∷ moves) ≡ dump_steps move + sum_by dump_steps moves = sum_by-cons dump_steps move moves in
      rows_then (dump_steps move) (sum_by dump_steps moves) (sum_by dump_steps (move ∷ moves)) (omega (arith, both)) w.store.reels mid.store.reels last.store.reels
      (move_grows w mid move isnt step) (completed_stay mid last moves run)

  -- A PROCESS
  leaves_lists : (keeps : ProcessKeeps) (w new : World) (o : Outcome) (what : Operator) (serial : ℕ) (k : Holding) → what ≡ line.Process serial → w.store.holding ≡ Some k → LineGives o what w new
      → IsBefore w.store new.store ⊎ IsBehind w.store k serial new.store
  leaves_lists keeps w new o what serial k is holds gives = by w.store.up (subst (λ (x : Operator). LineGives o x w new) is gives)
    where
      refused : (v : World) → new ≡ v → v.store ≡ w.store → IsBefore w.store new.store
      refused v e same = subst (λ (x : State). IsBefore w.store x) (sym (ap (λ (x : World). x.store) e ∙ same)) (record { dumped = refl; reels = all_kept w.store.reels })

      by : (b : Bool)
          → MatchBool b ((r : Result ℕ StoreFault) × (s : State) × IsProcessing w.store serial o r s × (new ≡ tells (λ n t v. now_stands (processed_text serial n) t v) r s w)) ((o ≡ Plain) × (new ≡ line_refused NotStarted w))
          → IsBefore w.store new.store ⊎ IsBehind w.store k serial new.store
      by true (r, s, (h, has, step, says_so), e) =
          let at_s : new.store ≡ s = ap (λ (x : World). x.store) e ∙ told_stands (processed_text serial) r s w in
          let one : h ≡ k = same_holding h k (sym has ∙ holds) in
          subst (λ (x : State). IsBefore w.store x ⊎ IsBehind w.store k serial x) (sym at_s)
          (keeps.reels w.store k serial o r s (subst (λ (x : Holding). ProcessStep w.store x serial o r s) one step))
      by false (plain, e) = inl (refused (line_refused NotStarted w) e refl)

  pub process_leaves : ProcessKeeps → ProcessLeavesLists tariffs tariff rules rule
  process_leaves keeps w new o next lines serial k are is holds (head, rest, same, between, idle, due, is_tape, gives) =
      leaves_lists keeps (record w { lines = rest }) new o head.what serial k (ap (λ (t : Timed). t.what) (same_head head next rest lines (sym same ∙ are)) ∙ is) holds gives
