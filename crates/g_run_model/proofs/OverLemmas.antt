-- A run that is over has no further move.
-- serves: lib, OneTextLemmas, crates above
use Rattle.std.proofs.Common.{◌≡◌, ℕ, zero, suc, List, [], ◌∷◌, Option, Some, None, refl, sym, ◌∙◌, ap, subst, inl, inr}
use Rattle.std.specs.Prelude.{◌⊎◌, ◌&&◌, not, slice_get, filter, codes, ◌++◌, Bool, true, false, Result, Ok, Err, MatchBool, if◌then◌else◌}
use Rattle.std.specs.Fn.{Shared}
use Rattle.std.specs.Fmt.{decimal}
use denote.Ref.{Bor}
use Rattle.g_rules.specs.declared.tariff.Usage.{Usage}
use Rattle.g_rules.specs.declared.tariff.Charge.{Charge}
use Rattle.g_rules.specs.declared.rule.Standing.{Standing}
use Rattle.g_plain.specs.declared.faults.StoreFault.{StoreFault}
use Rattle.g_plain.specs.declared.faults.StoreFault.TheVariants.{Stopped, Running, NotStarted}
use Rattle.g_plain.specs.Programs.{Asks}
use Rattle.g_monitor.specs.Parts.{full_text}
use Rattle.g_turn.specs.State.{Work}
use Rattle.g_job.specs.State.{JobState}
use Rattle.g_rules.specs.declared.turn.Turn.{Turn}
use Rattle.g_rules.specs.declared.turn.Turn.TheVariants as turns
use Rattle.g_store_model.specs.State.{State, OpenDump}
use Rattle.g_store_model.specs.CallStep.{Outcome, Plain}
use Rattle.g_store_model.specs.DumpSteps.{Stepped as DumpStepped, Going, Completed}
use Rattle.g_store_model.specs.Rising.{FormatStep, StartStep, RestoreStep}
use Rattle.g_script.specs.declared.operator.Operator.{Operator}
use Rattle.g_script.specs.declared.operator.Operator.TheVariants as line
use Rattle.g_script.specs.declared.operator.Timed.{Timed}
use Rattle.g_run_model.specs.World.{World, Between, Stepped, Turned, start, able, can_step, is_due, is_dumping, has_none, closed, shows}
use Rattle.g_run_model.specs.Texts.{started_text, tape_text, dump_text, processed_text}
use Rattle.g_run_model.specs.Events.{IsTold, IsOpening, IsMigration, IsProcessing}
use Rattle.g_run_model.specs.Lines.{LineGives, tells, up_with, now_stands, job_line, taken_in, job_refusal, line_refused, shut_with, at_terminal, changed_at, logged_in, login_refusal, open_at}
use Rattle.g_job.specs.Terminal.{logged_out, typed_to}
use Rattle.g_run_model.specs.Moves.{Move, TakeLine, Dumped, Begin, Answered, TurnOver, Ticked, Over, Step, Run, dump_told, turn_told}
use Rattle.g_run_model.specs.Laws.{NothingBehindOver}

-- no event but the last one ends a run
told_up : {R : Type 0} (said : R → List ℕ) (r : Result R StoreFault) (s : State) (w : World) → (tells (λ x t v. up_with (said x) t v) r s w).over ≡ w.over
told_up said (Ok x) s w = refl
told_up said (Err Stopped) s w = refl
told_up said (Err fault) s w = refl

told_stands : {R : Type 0} (said : R → List ℕ) (r : Result R StoreFault) (s : State) (w : World) → (tells (λ x t v. now_stands (said x) t v) r s w).over ≡ w.over
told_stands said (Ok x) s w = refl
told_stands said (Err Stopped) s w = refl
told_stands said (Err fault) s w = refl

-- what a step of a dump leaves of a world: whether the run is over, the turn and what is due
pub dump_leaves : (n : ℕ) (r : Result DumpStepped StoreFault) (s : State) (w : World)
    → ((dump_told n r s w).over ≡ w.over) × ((dump_told n r s w).turn ≡ w.turn) × (is_due (dump_told n r s w) ≡ is_due w)
dump_leaves n (Ok Going) s w = (refl, refl, refl)
dump_leaves n (Ok (Completed m)) s w = (refl, refl, refl)
dump_leaves n (Err Stopped) s w = (refl, refl, refl)
dump_leaves n (Err fault) s w = (refl, refl, refl)

dump_over : (n : ℕ) (r : Result DumpStepped StoreFault) (s : State) (w : World) → (dump_told n r s w).over ≡ w.over
dump_over n r s w = (dump_leaves n r s w).0

pub dump_turn : (n : ℕ) (r : Result DumpStepped StoreFault) (s : State) (w : World) → (dump_told n r s w).turn ≡ w.turn
dump_turn n r s w = (dump_leaves n r s w).1

pub dump_due : (n : ℕ) (r : Result DumpStepped StoreFault) (s : State) (w : World) → is_due (dump_told n r s w) ≡ is_due w
dump_due n r s w = (dump_leaves n r s w).2

turn_over : (j : JobState) (t : Turn) (w : World) → (turn_told j t w).over ≡ w.over
turn_over j turns.Broken w = refl
turn_over j (turns.Wants serial) w = refl
turn_over j (turns.Ran units money) w = refl
turn_over j (turns.Ended units money) w = refl

job_over : (refusal : Option (List ℕ)) (taken w : World) → taken.over ≡ w.over → (job_line refusal taken w).over ≡ w.over
job_over None taken w e = e
job_over (Some text) taken w e = refl

over_is : (w new v : World) → new ≡ v → v.over ≡ w.over → new.over ≡ w.over
over_is w new v is same = ap (λ (x : World). x.over) is ∙ same

rises_over : {R : Type 0} (Does : State → Outcome → Result R StoreFault → State → Type 0) (said : R → List ℕ) (o : Outcome) (w new : World) (b : Bool)
    → MatchBool (not b) ((r : Result R StoreFault) × (s : State) × (Does w.store o r s × IsTold o r) × (new ≡ tells (λ x t v. up_with (said x) t v) r s w)) ((o ≡ Plain) × (new ≡ line_refused Running w))
    → new.over ≡ w.over
rises_over Does said o w new true (plain, is) = over_is w new (line_refused Running w) is refl
rises_over Does said o w new false (r, s, (does, so), is) = over_is w new (tells (λ x t v. up_with (said x) t v) r s w) is (told_up said r s w)

needs_over : {R : Type 0} (Does : Result R StoreFault → State → Type 0) (said : R → List ℕ) (o : Outcome) (w new : World) (b : Bool)
    → MatchBool b ((r : Result R StoreFault) × (s : State) × Does r s × (new ≡ tells (λ x t v. now_stands (said x) t v) r s w)) ((o ≡ Plain) × (new ≡ line_refused NotStarted w))
    → new.over ≡ w.over
needs_over Does said o w new true (r, s, does, is) = over_is w new (tells (λ x t v. now_stands (said x) t v) r s w) is (told_stands said r s w)
needs_over Does said o w new false (plain, is) = over_is w new (line_refused NotStarted w) is refl

shut_at : (d : Option OpenDump) (w new : World) → new ≡ shut_with d w → new.over ≡ w.over
shut_at (Some dump) w new is = over_is w new _ is refl
shut_at None w new is = over_is w new _ is refl

shut_over : (w new : World) (b : Bool) → new ≡ (if b then shut_with w.store.open_dump w else line_refused NotStarted w) → new.over ≡ w.over
shut_over w new true shuts = shut_at w.store.open_dump w new shuts
shut_over w new false is = over_is w new (line_refused NotStarted w) is refl

job_by : (name user : List ℕ) (time money : ℕ) (lines : List (List ℕ)) (w : World) (b : Bool)
    → (if b then job_line (job_refusal w user time money) (taken_in name user time money lines w) w else line_refused NotStarted w).over ≡ w.over
job_by name user time money lines w true = job_over (job_refusal w user time money) (taken_in name user time money lines w) w refl
job_by name user time money lines w false = refl

login_by : (t : ℕ) (user : List ℕ) (time : ℕ) (w : World) (b : Bool)
    → (if b then job_line (login_refusal w t user time) (logged_in t user time w) w else line_refused NotStarted w).over ≡ w.over
login_by t user time w true = job_over (login_refusal w t user time) (logged_in t user time w) w refl
login_by t user time w false = refl

changed_over : (t : ℕ) (change : JobState → JobState) (j : Option JobState) (w : World) → (changed_at t change j w).over ≡ w.over
changed_over t change None w = refl
changed_over t change (Some j) w = refl

typed_by : (t : ℕ) (change : JobState → JobState) (w : World) (b : Bool) → (if b then at_terminal t change w else line_refused NotStarted w).over ≡ w.over
typed_by t change w true = changed_over t change (open_at t w.jobs) w
typed_by t change w false = refl

line_over : (o : Outcome) (what : Operator) (w new : World) → LineGives o what w new → new.over ≡ w.over
line_over o line.Format w new gives = rises_over FormatStep (λ r. codes "FORMATTED") o w new w.store.up gives
line_over o line.Start w new gives = rises_over StartStep started_text o w new w.store.up gives
line_over o line.Restore w new gives = rises_over RestoreStep (λ n. codes "RESTORED FROM DUMP " ++ decimal n) o w new w.store.up gives
line_over o line.Shut w new (plain, gives) = shut_over w new w.store.up gives
line_over o (line.Job name user time money lines) w new (plain, is) = over_is w new _ is (job_by name user time money lines w w.store.up)
line_over o (line.Mount serial) w new (r, s, does, is) = over_is w new _ is (told_stands (λ _. tape_text serial (codes "MOUNTED")) r s w)
line_over o (line.Unmount serial) w new (r, s, does, is) = over_is w new _ is (told_stands (λ _. tape_text serial (codes "UNMOUNTED")) r s w)
line_over o (line.Dump serial) w new gives = needs_over (λ r s. IsOpening w.store serial o r s) (λ n. dump_text n (codes "OPENED")) o w new w.store.up gives
line_over o (line.Process serial) w new gives = needs_over (λ r s. IsProcessing w.store serial o r s) (processed_text serial) o w new w.store.up gives
line_over o (line.Migrate path) w new gives = needs_over (λ r s. IsMigration w.store path o r s) (λ full. codes "MIGRATED " ++ full_text full) o w new w.store.up gives
line_over o (line.StopDisc k) w new (plain, is) = over_is w new _ is refl
line_over o (line.StopTape k) w new (plain, is) = over_is w new _ is refl
line_over o (line.Login t user time) w new (plain, is) = over_is w new _ is (login_by t user time w w.store.up)
line_over o (line.Typed t text) w new (plain, is) = over_is w new _ is (typed_by t (typed_to text) w w.store.up)
line_over o (line.Logout t) w new (plain, is) = over_is w new _ is (typed_by t logged_out w w.store.up)

-- a run is at its end
pub record IsAtEnd (w : World) : Type 0 where
  pub over : w.over ≡ true
  pub lines : w.lines ≡ []
  pub phase : w.phase ≡ Between
  pub turn : w.turn ≡ None
  pub dumping : is_dumping w ≡ false
  pub jobs : w.jobs ≡ []

nil_cons : (next : Timed) (rest : List Timed) → (let none : List Timed = [] in none ≡ next ∷ rest) → ⊥
nil_cons next rest e = cc

false_true : false ≡ true → ⊥
false_true e = cc

no_turn : (t : ℕ × Asks Work) → (let none : Option (ℕ × Asks Work) = None in none ≡ Some t) → ⊥
no_turn t e = cc

no_job : (j : JobState) → (let none : Option JobState = None in none ≡ Some j) → ⊥
no_job j e = cc

not_turned : Between ≡ Turned → ⊥
not_turned e = cc

not_stepped : Between ≡ Stepped → ⊥
not_stepped e = cc

none_there : (place : ℕ) → (let none : List JobState = [] in slice_get none place) ≡ None
none_there zero = refl
none_there (suc n) = refl

not_dumping : (a b : Bool) → (not a && b) ≡ true → a ≡ false
not_dumping false b e = refl
not_dumping true b e = absurd (false_true e)

module _ {F U : Type 0} (tariffs : Shared F (Bor Usage × Unit {0}) Charge) (tariff : F) (rules : Shared U (Bor Standing × Unit {0}) ℕ) (rule : U) where
  -- at its end no move applies
  pub at_end : (w new : World) (move : Move) → IsAtEnd w → Step tariffs tariff rules rule w move new → ⊥
  at_end w new (TakeLine tape o) ends (next, rest, lines, between, idle, due, is_tape, gives) = nil_cons next rest (sym ends.lines ∙ lines)
  at_end w new (Dumped o) ends (between, idle, undue, dumping, more) = false_true (sym ends.dumping ∙ dumping)
  at_end w new (Begin number) ends (idle, undue, ready, (place, job, chosen, there, named, is)) =
      no_job job (sym (none_there place) ∙ sym (ap (λ (jobs : List JobState). slice_get (filter (can_step w.store) jobs) place) ends.jobs) ∙ there)
  at_end w new (Answered o) ends (number, call, more, job, answer, s, asks, here, step, real, is) = no_turn _ (sym ends.turn ∙ asks)
  at_end w new (TurnOver number charge) ends (work, job, turn, after, gives, here, priced, ended, is) = no_turn _ (sym ends.turn ∙ gives)
  at_end w new Ticked ends (idle, inl turned, is) = not_turned (sym ends.phase ∙ turned)
  at_end w new Ticked ends (idle, inr (stepped, none), is) = not_stepped (sym ends.phase ∙ stepped)
  at_end w new Over ends (between, idle, lines, nothing, going, is) = false_true (sym going ∙ ends.over)

  -- a move continues the run, or ends it
  pub step_over : (w new : World) (move : Move) → w.over ≡ false → Step tariffs tariff rules rule w move new → (new.over ≡ false) ⊎ IsAtEnd new
  step_over w new (TakeLine tape o) e (next, rest, lines, between, idle, due, is_tape, gives) = inl (line_over o next.what (record w { lines = rest }) new gives ∙ e)
  step_over w new (Dumped o) e (between, idle, undue, dumping, (r, s, step, is)) = inl (over_is w new _ is (dump_over _ r s w) ∙ e)
  step_over w new (Begin number) e (idle, undue, ready, (place, job, chosen, there, named, is)) = inl (over_is w new _ is refl ∙ e)
  step_over w new (Answered o) e (number, call, more, job, answer, s, asks, here, step, real, is) = inl (over_is w new _ is refl ∙ e)
  step_over w new (TurnOver number charge) e (work, job, turn, after, gives, here, priced, ends, is) = inl (over_is w new _ is (turn_over after turn (shows job after w)) ∙ e)
  step_over w new Ticked e (idle, done, is) = inl (over_is w new _ is refl ∙ e)
  step_over w new Over e (between, idle, lines, nothing, going, is) =
      let ends : IsAtEnd (closed w) = record { over = refl; lines = lines; phase = between; turn = idle; dumping = not_dumping (is_dumping w) (has_none (able w)) nothing; jobs = refl } in
      inr (subst (λ (v : World). IsAtEnd v) (sym is) ends)

  run_over : (w : World) (moves : List Move) (last : World) → (w.over ≡ false) ⊎ IsAtEnd w → Run tariffs tariff rules rule w moves last → (last.over ≡ false) ⊎ IsAtEnd last
  run_over w [] last now is = subst (λ (v : World). (v.over ≡ false) ⊎ IsAtEnd v) (sym is) now
  run_over w (move ∷ moves) last (inl e) (mid, step, rest) = run_over mid moves last (step_over w mid move e step) rest
  run_over w (move ∷ moves) last (inr ends) (mid, step, rest) = absurd (at_end w mid move ends step)

  pub nothing_behind_over : NothingBehindOver tariffs tariff rules rule
  nothing_behind_over lines bad s moves last new move run over step = by (run_over (start lines bad s) moves last (inl refl) run)
    where
      by : (last.over ≡ false) ⊎ IsAtEnd last → ⊥
      by (inl e) = false_true (sym e ∙ over)
      by (inr ends) = at_end last new move ends step
