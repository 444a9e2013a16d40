-- An open dump, move by move.
-- serves: dumps_take_their_needs, open_dumps_stay, CompleteLemmas
use Rattle.std.proofs.Common.{◌≡◌, ℕ, ◌+◌, ◌≤◌, ◌<◌, List, [], ◌∷◌, Option, Some, None, refl, sym, ◌∙◌, ap, subst, inl, inr, arith}
use Rattle.std.specs.Prelude.{◌⊎◌, ◌-◌, ◌^◌, ◌==◌, ◌||◌, Bool, true, false, not, nat_lt, Result, Err, MatchBool, if◌then◌else◌, is_some, option_map, sum_by, codes, ◌++◌}
use Rattle.std.proofs.lemmas.List.Sums.{sum_by-cons}
use Rattle.std.specs.Fmt.{decimal}
use Rattle.std.specs.Fn.{Shared}
use denote.Ref.{Bor}
use Rattle.g_rules.specs.declared.tariff.Charge.{Charge}
use Rattle.g_rules.specs.declared.tariff.Usage.{Usage}
use Rattle.g_rules.specs.declared.rule.Standing.{Standing}
use Rattle.g_monitor.specs.Parts.{full_text}
use Rattle.g_plain.specs.declared.calls.StoreCall.{StoreCall}
use Rattle.g_plain.specs.declared.calls.StoreReply.{StoreReply}
use Rattle.g_plain.specs.declared.faults.StoreFault.{StoreFault}
use Rattle.g_plain.specs.declared.faults.StoreFault.TheVariants.{CountersSpent, DumpOpen, NoTape, NotMounted, NotStarted, Running, Stopped, TapeFull, TapeReadFault}
use Rattle.g_plain.specs.PlainStep.{Checks, first_fault}
use Rattle.g_script.specs.declared.operator.Operator.{Operator}
use Rattle.g_script.specs.declared.operator.Operator.TheVariants as line
use Rattle.g_store_model.specs.CallStep.{Outcome, Plain, after_call, brings_now, is_cut, is_tape_read, touched_by, writes, CallStep}
use Rattle.g_store_model.specs.DumpSteps.{Event, dump_needs, open_number, open_refuses, tape_room}
use Rattle.g_store_model.specs.Rising.{FormatStep, RestoreStep, StartStep}
use Rattle.g_store_model.specs.State.{Holding, OpenDump, State, is_mounted, lacks}
use Rattle.g_run_model.specs.Events.{IsMigration, IsOpening, IsTold, IsProcessing}
use Rattle.g_run_model.specs.Laws.{DumpsEnd}
use Rattle.g_run_model.specs.Lines.{LineGives, shut_with, line_refused, now_stands, tells, up_with}
use Rattle.g_run_model.specs.Moves.{Answered, Begin, Dumped, Move, Over, Step, TakeLine, Ticked, TurnOver}
use Rattle.g_run_model.specs.Texts.{dump_text, started_text, tape_text, processed_text}
use Rattle.g_run_model.specs.World.{World, shows}
use Rattle.g_run_model.proofs.TreeLemmas.{job_by, login_by, told_stands, told_up, turn_store, typed_by}
use Rattle.g_job.specs.Terminal.{logged_out, typed_to}
use Rattle.g_laws_runs.specs.Dumps.{DumpsStay, DumpsTakeNeeds, IsSameDump, RunOpen, StaysOrGoes, dump_steps}
use Rattle.g_run_model.proofs.ProcessedLemmas.{of_each}
use Rattle.g_store_model.specs.Process.{ProcessStep}
use Rattle.g_run_model.proofs.StepLemmas.{call_kept, restore_kept, start_kept}

pub one_dump : (a b : OpenDump) → (let one : Option OpenDump = Some a in one ≡ Some b) → a ≡ b
one_dump a b e = cc

not_none : {P : Type 0} (a : OpenDump) → (let none : Option OpenDump = None in none ≡ Some a) → P
not_none a e = absurd (let no : ⊥ = cc in no)

alike : (d e : OpenDump) → e ≡ d → IsSameDump d e
alike d e same = record {
  number = ap (λ (x : OpenDump). x.number) same;
  needs = ap (λ (x : OpenDump). x.needs) same;
  done = ap (λ (x : OpenDump). x.done) same;
  tree = ap (λ (x : OpenDump). x.tree) same;
}

stays : (d : OpenDump) (x : Option OpenDump) → x ≡ Some d → StaysOrGoes d x
stays d None is = tt
stays d (Some e) is = alike d e (one_dump e d is)

goes : (d : OpenDump) (x : Option OpenDump) → x ≡ None → StaysOrGoes d x
goes d None is = tt
goes d (Some e) is = not_none e (sym is)

module _ (d : OpenDump) where
  -- of the state that a store has now
  at_state : (s new : State) → new ≡ s → StaysOrGoes d s.open_dump → StaysOrGoes d new.open_dump
  at_state s new is it = subst (λ (x : State). StaysOrGoes d x.open_dump) (sym is) it

  event_stays : {A : Type 0} (f : Option StoreFault) (reply : A) (s after : State) (r : Result A StoreFault) (new : State) → s.open_dump ≡ Some d
      → (f ≡ None → StaysOrGoes d after.open_dump) → Event f reply s after r new → StaysOrGoes d new.open_dump
  event_stays None reply s after r new opened done (ok, is) = at_state after new is (done refl)
  event_stays (Some Stopped) reply s after r new opened done (err, inl is) = goes d new.open_dump (ap (λ (x : State). x.open_dump) is)
  event_stays (Some Stopped) reply s after r new opened done (err, inr is) = goes d new.open_dump (ap (λ (x : State). x.open_dump) is)
  event_stays (Some fault) reply s after r new opened done (err, is) = at_state s new is (stays d s.open_dump opened)

  start_stays : (s : State) (o : Outcome) (r : Result (Option ℕ) StoreFault) (new : State) → s.open_dump ≡ Some d → StartStep s o r new → StaysOrGoes d new.open_dump
  start_stays s o r new opened step = start_kept (λ (x : State). StaysOrGoes d x.open_dump) s (stays d s.open_dump opened) (goes d None refl) (λ k e. tt) (λ k e. tt) o r new step

  restore_stays : (s : State) (o : Outcome) (r : Result ℕ StoreFault) (new : State) → s.open_dump ≡ Some d → RestoreStep s o r new → StaysOrGoes d new.open_dump
  restore_stays s o r new opened step = restore_kept (λ (x : State). StaysOrGoes d x.open_dump) s (stays d s.open_dump opened) (goes d None refl) (λ t e. tt) (λ t e. tt) o r new step

  -- an opening is refused while a dump is open
  third_true : {P : Type 0} (a b : Bool) (x y z : StoreFault) (rest : Checks) → first_fault ((a, x) ∷ (b, y) ∷ (true, z) ∷ rest) ≡ None → P
  third_true true b x y z rest none = absurd (let no : ⊥ = cc in no)
  third_true false true x y z rest none = absurd (let no : ⊥ = cc in no)
  third_true false false x y z rest none = absurd (let no : ⊥ = cc in no)

  pub open_refused : {P : Type 0} (s : State) (k : Holding) (serial : ℕ) (o : Outcome) → s.open_dump ≡ Some d → open_refuses s k serial o ≡ None → P
  open_refused s k serial o opened none =
      let rest : Checks = (k.last == 2 ^ 62 - 1, CountersSpent) ∷ (is_tape_read o, TapeReadFault) ∷ (nat_lt (tape_room s serial) (dump_needs k), TapeFull (dump_needs k) (tape_room s serial)) ∷ (is_cut o, Stopped) ∷ [] in
      third_true (lacks s serial) (not (is_mounted s serial)) NoTape NotMounted (DumpOpen (open_number s.open_dump)) rest
      (subst (λ (b : Bool). first_fault ((lacks s serial, NoTape) ∷ (not (is_mounted s serial), NotMounted) ∷ (b, DumpOpen (open_number s.open_dump)) ∷ rest) ≡ None) (ap is_some opened) none)

  -- after a line that called the store, and left it at s
  told : (w new v : World) (s : State) → new ≡ v → v.store ≡ s → StaysOrGoes d s.open_dump → StaysOrGoes d new.store.open_dump
  told w new v s is same it = at_state s new.store (ap (λ (x : World). x.store) is ∙ same) it

  still : (w new v : World) → w.store.open_dump ≡ Some d → new ≡ v → v.store ≡ w.store → StaysOrGoes d new.store.open_dump
  still w new v opened is same = told w new v w.store is same (stays d w.store.open_dump opened)

  rises_stays : {R : Type 0} (Does : State → Outcome → Result R StoreFault → State → Type 0) (said : R → List ℕ) (o : Outcome) (w new : World) → w.store.open_dump ≡ Some d
      → ((r : Result R StoreFault) (s : State) → Does w.store o r s → StaysOrGoes d s.open_dump) → (b : Bool)
      → MatchBool (not b) ((r : Result R StoreFault) × (s : State) × (Does w.store o r s × IsTold o r) × (new ≡ tells (λ x t v. up_with (said x) t v) r s w)) ((o ≡ Plain) × (new ≡ line_refused Running w))
      → StaysOrGoes d new.store.open_dump
  rises_stays Does said o w new opened leaves true (plain, is) = still w new (line_refused Running w) opened is refl
  rises_stays Does said o w new opened leaves false (r, s, (does, says_so), is) = told w new (tells (λ x t v. up_with (said x) t v) r s w) s is (told_up said r s w) (leaves r s does)

  needs_stays : {R : Type 0} (Does : Result R StoreFault → State → Type 0) (said : R → List ℕ) (o : Outcome) (w new : World) → w.store.open_dump ≡ Some d
      → ((r : Result R StoreFault) (s : State) → Does r s → StaysOrGoes d s.open_dump) → (b : Bool)
      → MatchBool b ((r : Result R StoreFault) × (s : State) × Does r s × (new ≡ tells (λ x t v. now_stands (said x) t v) r s w)) ((o ≡ Plain) × (new ≡ line_refused NotStarted w))
      → StaysOrGoes d new.store.open_dump
  needs_stays Does said o w new opened leaves true (r, s, does, is) = told w new (tells (λ x t v. now_stands (said x) t v) r s w) s is (told_stands said r s w) (leaves r s does)
  needs_stays Does said o w new opened leaves false (plain, is) = still w new (line_refused NotStarted w) opened is refl

  shut_stays : (e : Option OpenDump) (w new : World) → w.store.open_dump ≡ Some d → new ≡ shut_with e w → StaysOrGoes d new.store.open_dump
  shut_stays (Some dump) w new opened is = still w new _ opened is refl
  shut_stays None w new opened is = goes d new.store.open_dump (ap (λ (x : World). x.store.open_dump) is)

  shut_by : (o : Outcome) (w new : World) (b : Bool) → w.store.open_dump ≡ Some d → new ≡ (if b then shut_with w.store.open_dump w else line_refused NotStarted w) → StaysOrGoes d new.store.open_dump
  shut_by o w new true opened shuts = shut_stays w.store.open_dump w new opened shuts
  shut_by o w new false opened is = still w new (line_refused NotStarted w) opened is refl

  -- a PROCESS
  Stays : State → Type 0
  Stays x = StaysOrGoes d x.open_dump

  process_stays : (s : State) (k : Holding) (serial : ℕ) (o : Outcome) (r : Result ℕ StoreFault) (new : State) → s.open_dump ≡ Some d → ProcessStep s k serial o r new → StaysOrGoes d new.open_dump
  unfolding Stays
  process_stays s k serial o r new opened step =
      of_each Stays s k serial
      (record {
        same = stays d s.open_dump opened;
        gone = tt;
        noted_up = λ used. stays d s.open_dump opened;
        noted_down = λ used. tt;
        marked_down = λ x is. tt;
        moved_up = λ places x until is. stays d s.open_dump opened;
        moved_down = λ places x until cut is. tt;
      }) o r new step

  -- A LINE
  line_stays : (o : Outcome) (what : Operator) (w new : World) → w.store.open_dump ≡ Some d → LineGives o what w new → StaysOrGoes d new.store.open_dump
  line_stays o line.Format w new opened gives = rises_stays FormatStep (λ r. codes "FORMATTED") o w new opened (λ r s does. event_stays _ _ w.store _ r s opened (λ none. tt) does) w.store.up gives
  line_stays o line.Start w new opened gives = rises_stays StartStep started_text o w new opened (λ r s does. start_stays w.store o r s opened does) w.store.up gives
  line_stays o line.Restore w new opened gives =
      rises_stays RestoreStep (λ n. codes "RESTORED FROM DUMP " ++ decimal n) o w new opened (λ r s does. restore_stays w.store o r s opened does) w.store.up gives
  line_stays o line.Shut w new opened (plain, gives) = shut_by o w new w.store.up opened gives
  line_stays o (line.Job name user time money lines) w new opened (plain, is) = still w new _ opened is (job_by o name user time money lines w w.store.up)
  line_stays o (line.Mount serial) w new opened (r, s, (plain, does), is) =
      told w new _ s is (told_stands (λ _. tape_text serial (codes "MOUNTED")) r s w) (event_stays _ _ w.store _ r s opened (λ none. stays d w.store.open_dump opened) does)
  line_stays o (line.Unmount serial) w new opened (r, s, (plain, does), is) =
      told w new _ s is (told_stands (λ _. tape_text serial (codes "UNMOUNTED")) r s w) (event_stays _ _ w.store _ r s opened (λ none. stays d w.store.open_dump opened) does)
  line_stays o (line.Dump serial) w new opened gives =
      needs_stays (λ r s. IsOpening w.store serial o r s) (λ n. dump_text n (codes "OPENED")) o w new opened
      (λ r s (k, holds, (places, noted, event), says_so). event_stays _ _ w.store _ r s opened (λ none. open_refused w.store k serial o opened none) event) w.store.up gives
  line_stays o (line.Process serial) w new opened gives =
      needs_stays (λ r s. IsProcessing w.store serial o r s) (processed_text serial) o w new opened
      (λ r s (k, holds, step, says_so). process_stays w.store k serial o r s opened step) w.store.up gives
  line_stays o (line.Migrate path) w new opened gives =
      needs_stays (λ r s. IsMigration w.store path o r s) (λ full. codes "MIGRATED " ++ full_text full) o w new opened
      (λ r s (k, holds, event, says_so). event_stays _ _ w.store _ r s opened (λ none. stays d w.store.open_dump opened) event) w.store.up gives
  line_stays o (line.StopDisc k) w new opened (plain, is) = still w new _ opened is refl
  line_stays o (line.StopTape k) w new opened (plain, is) = still w new _ opened is refl
  line_stays o (line.Login t user time) w new opened (plain, is) = still w new _ opened is (login_by o t user time w w.store.up)
  line_stays o (line.Typed t text) w new opened (plain, is) = still w new _ opened is (typed_by t (typed_to text) w w.store.up)
  line_stays o (line.Logout t) w new opened (plain, is) = still w new _ opened is (typed_by t logged_out w w.store.up)

  -- A CALL: whose directory it changes is noted, and nothing else of the dump
  touched_stays : (s : State) (k : Holding) (who : List ℕ) (call : StoreCall) (x : Option OpenDump) → x ≡ Some d → StaysOrGoes d (option_map (touched_by s k who call) x)
  touched_stays s k who call None is = tt
  touched_stays s k who call (Some e) is = let same = one_dump e d is in record {
    number = ap (λ (y : OpenDump). y.number) same;
    needs = ap (λ (y : OpenDump). y.needs) same;
    done = ap (λ (y : OpenDump). y.done) same;
    tree = ap (λ (y : OpenDump). y.tree) same;
  }

  either : (b : Bool) (t s : State) → StaysOrGoes d t.open_dump → StaysOrGoes d s.open_dump → StaysOrGoes d (if b then t else s).open_dump
  either true t s one other = one
  either false t s one other = other

  call_after : (s : State) (k : Holding) (who : List ℕ) (call : StoreCall) (until : ℕ) → s.open_dump ≡ Some d → StaysOrGoes d (after_call s k who call until).open_dump
  call_after s k who call until opened =
      either (writes call || brings_now s k who call) _ s (touched_stays s k who call s.open_dump opened) (stays d s.open_dump opened)

  call_stays : (s : State) (k : Holding) (who : List ℕ) (call : StoreCall) (o : Outcome) (answer : Result StoreReply StoreFault) (new : State) → s.open_dump ≡ Some d
      → CallStep s k who call o answer new → StaysOrGoes d new.open_dump
  call_stays s k who call o answer new opened step =
      call_kept (λ (x : State). StaysOrGoes d x.open_dump) s k who call (stays d s.open_dump opened) (goes d None refl) (λ until. goes d None refl) (λ until. call_after s k who call until opened)
      (λ until. goes d None refl) o answer new step

module _ {F U : Type 0} (tariffs : Shared F (Bor Usage × Unit {0}) Charge) (tariff : F) (rules : Shared U (Bor Standing × Unit {0}) ℕ) (rule : U) where
  pub dumps_stay : DumpsStay tariffs tariff rules rule
  dumps_stay w new (TakeLine tape o) d opened (next, rest, lines, between, idle, due, is_tape, gives) quiet = line_stays d o next.what (record w { lines = rest }) new opened gives
  dumps_stay w new (Dumped o) d opened step quiet = absurd (let no : ⊥ = omega (arith, quiet) in no)
  dumps_stay w new (Begin number) d opened (idle, undue, ready, (place, job, chosen, there, number_is, is)) quiet = still d w new _ opened is refl
  dumps_stay w new (Answered o) d opened (number, call, more, job, answer, s, asks, here, (k, holds, step, says_so), real, is) quiet =
      told d w new _ s is refl (call_stays d w.store k job.user call o answer s opened step)
  dumps_stay w new (TurnOver number charge) d opened (work, job, turn, after, asks, here, priced, ends, is) quiet = still d w new _ opened is (turn_store after turn (shows job after w))
  dumps_stay w new Ticked d opened (idle, phase, is) quiet = still d w new _ opened is refl
  dumps_stay w new Over d opened (between, idle, lines, nothing, over, is) quiet = still d w new _ opened is refl

  -- a dump that is gone takes no more steps
  none_left : (w last : World) (moves : List Move) → w.store.open_dump ≡ None → RunOpen tariffs tariff rules rule w moves last → sum_by dump_steps moves ≡ 0
  none_left w last [] gone run = refl
  none_left w last (move ∷ moves) gone (mid, dumping, step, run) =
      let both : true ≡ false = sym dumping ∙ ap is_some gone in absurd (let no : ⊥ = cc in no)

  -- what is left of the moves, from a dump that is open then
  abbrev Counts : World → List Move → World → Type 0
  Counts mid moves last = (e : OpenDump) → mid.store.open_dump ≡ Some e → e.done < e.needs → RunOpen tariffs tariff rules rule mid moves last → sum_by dump_steps moves + e.done ≤ e.needs

  quiet_by : (d : OpenDump) (mid last : World) (moves : List Move) (x : Option OpenDump) → mid.store.open_dump ≡ x → StaysOrGoes d x → d.done < d.needs → Counts mid moves last
      → RunOpen tariffs tariff rules rule mid moves last → 0 + sum_by dump_steps moves + d.done ≤ d.needs
  quiet_by d mid last moves None is it less rest run = let none = none_left mid last moves is run in omega (arith, less, none)
  quiet_by d mid last moves (Some e) is it less rest run =
      let needs = it.needs in
      let done = it.done in
      let short : e.done < e.needs = omega (arith, less, needs, done) in
      let sum = rest e is short run in
      omega (arith, sum, needs, done)

  step_by : (d : OpenDump) (mid last : World) (moves : List Move) → (mid.store.open_dump ≡ None) ⊎ ((d.done + 1 < d.needs) × (mid.store.open_dump ≡ Some (record d { done = d.done + 1 }))) → d.done < d.needs
      → Counts mid moves last → RunOpen tariffs tariff rules rule mid moves last → 1 + sum_by dump_steps moves + d.done ≤ d.needs
  step_by d mid last moves (inl gone) less rest run = let none = none_left mid last moves gone run in omega (arith, less, none)
  step_by d mid last moves (inr (more, is)) less rest run = let sum = rest (record d { done = d.done + 1 }) is more run in omega (arith, sum)

  module _ (ends : DumpsEnd tariffs tariff rules rule) where
    one_by : (w mid last : World) (move : Move) (moves : List Move) (d : OpenDump) → w.store.open_dump ≡ Some d → d.done < d.needs → Step tariffs tariff rules rule w move mid → Counts mid moves last
        → RunOpen tariffs tariff rules rule mid moves last → dump_steps move + sum_by dump_steps moves + d.done ≤ d.needs
    one_by w mid last (Dumped o) moves d opened less step rest run = step_by d mid last moves (ends w mid o d opened step) less rest run
    one_by w mid last (TakeLine tape o) moves d opened less step rest run = quiet_by d mid last moves mid.store.open_dump refl (dumps_stay w mid (TakeLine tape o) d opened step refl) less rest run
    one_by w mid last (Begin number) moves d opened less step rest run = quiet_by d mid last moves mid.store.open_dump refl (dumps_stay w mid (Begin number) d opened step refl) less rest run
    one_by w mid last (Answered o) moves d opened less step rest run = quiet_by d mid last moves mid.store.open_dump refl (dumps_stay w mid (Answered o) d opened step refl) less rest run
    one_by w mid last (TurnOver number charge) moves d opened less step rest run =
        quiet_by d mid last moves mid.store.open_dump refl (dumps_stay w mid (TurnOver number charge) d opened step refl) less rest run
    one_by w mid last Ticked moves d opened less step rest run = quiet_by d mid last moves mid.store.open_dump refl (dumps_stay w mid Ticked d opened step refl) less rest run
    one_by w mid last Over moves d opened less step rest run = quiet_by d mid last moves mid.store.open_dump refl (dumps_stay w mid Over d opened step refl) less rest run

    pub take_needs : DumpsTakeNeeds tariffs tariff rules rule
    take_needs w last [] d opened less run = let none : sum_by dump_steps [] ≡ 0 = refl in omega (arith, less, none)
    take_needs w last (move ∷ moves) d opened less (mid, dumping, step, run) =
        let sum = one_by w mid last move moves d opened less step (take_needs mid last moves) run in
        let both : sum_by dump_steps (move ∷ moves) ≡ dump_steps move + sum_by dump_steps moves = sum_by-cons dump_steps move moves in
        omega (arith, sum, both)
