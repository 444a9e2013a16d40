-- Every turn satisfies its limits, and so a tariff charges at least one unit.
-- serves: EndsLemmas, ReadLemmas
use Rattle.std.proofs.Common.{◌&&◌, ◌≡◌, ◌⊎◌, ◌≤◌, ◌+◌, ◌==◌, ◌++◌, ℕ, Bool, true, false, not, List, [], ◌∷◌, filter, length, Option, Some, None, IfSome, slice_get, Result, Ok, Err, MatchBool, codes, if◌then◌else◌, refl, sym, ◌∙◌, ap, subst, inl, inr, eqb-true, lit≤, arith}
use Rattle.std.proofs.lemmas.Option.{some_pair_parts}
use Rattle.std.specs.Fmt.{decimal}
use Rattle.std.specs.Fn.{Shared}
use Rattle.std.specs.List.{AllByRecursion}
use denote.Ref.{Bor}
use Rattle.g_turn.proofs.BoundLemmas.{Good}
use Rattle.g_turn.proofs.CommandBounds.{does_fired_gives, line_gives, runs_or_takes_gives}
use Rattle.g_turn.specs.Bounds.{AlwaysGives, IsKeptWithin, MayAnswer}
use Rattle.g_turn.specs.State.{AgainCommand, AgainLine, Broken, Done, Full, Pending, Stop, Waits, Work}
use Rattle.g_turn.specs.Turns.{begins, with_kept}
use Rattle.g_rules.specs.Tariff.{IsTariff, IsUsage}
use Rattle.g_rules.specs.declared.tariff.Charge.{Charge}
use Rattle.g_rules.specs.declared.tariff.Usage.{Usage}
use Rattle.g_job.specs.Beginning.{begin, job_begun, room_of}
use Rattle.g_job.specs.TurnEnd.{behind_turn, charged, end_by, is_money_up, is_time_up, up_line}
use Rattle.g_job.specs.State.{JobState}
use Rattle.g_job.specs.Turns.{turn_work}
use Rattle.g_rules.specs.declared.turn.Turn.{Turn}
use Rattle.g_rules.specs.declared.turn.Turn.TheVariants as turns
use Rattle.g_monitor.specs.Parts.{full_text}
use Rattle.g_plain.specs.Programs.{Answer, Asks, Call, Gives}
use Rattle.g_plain.specs.declared.calls.StoreCall.{StoreCall}
use Rattle.g_plain.specs.declared.faults.StoreFault.{StoreFault}
use Rattle.g_plain.specs.declared.faults.StoreFault.TheVariants.{NotStarted, Running, Stopped}
use Rattle.g_rules.specs.declared.rule.Standing.{Standing}
use Rattle.g_script.specs.declared.operator.Operator.{Operator}
use Rattle.g_script.specs.declared.operator.Operator.TheVariants as line
use Rattle.g_script.specs.declared.operator.Timed.{Timed}
use Rattle.g_store_model.specs.CallStep.{Outcome, Plain}
use Rattle.g_store_model.specs.DumpSteps.{Completed, Going, Stepped as DumpStepped}
use Rattle.g_store_model.specs.Laws.{AnswersPlainly}
use Rattle.g_store_model.specs.Rising.{FormatStep, RestoreStep, StartStep}
use Rattle.g_store_model.specs.State.{OpenDump, State}
use Rattle.g_run_model.specs.Events.{IsMigration, IsOpening, IsTold, IsProcessing}
use Rattle.g_run_model.specs.Laws.{AreShort}
use Rattle.g_run_model.specs.Lines.{LineGives, shut_with, at_terminal, changed_at, job_line, job_refusal, line_refused, logged_in, login_refusal, now_stands, open_at, sits_at, taken_in, tells, terminal_job, up_with}
use Rattle.g_job.specs.Terminal.{with_stack}
use Rattle.g_macro.specs.Holding.{finished, with_typed}
use Rattle.g_macro.specs.Levels.{Stack}
use Rattle.g_run_model.specs.Moves.{Answered, Begin, Dumped, Move, Over, Run, Step, TakeLine, Ticked, TurnOver, dump_told, turn_told}
use Rattle.g_run_model.specs.Texts.{dump_text, started_text, tape_text, processed_text}
use Rattle.g_run_model.specs.World.{World, can_step, start, with_job, without_job, shows}
use Rattle.g_run_model.proofs.CrewLemmas.{AreRising, found_other, found_push, found_same, left_none, left_other, listed, no_job, numbered, one_job, rising_filter, rising_push, rising_with, found_by}
use Rattle.g_run_model.proofs.ShortLemmas.{KeepsShort, call_short, dump_short, format_short, may_answer, migrate_short, mount_short, open_short, restore_short, short_down, start_short, unmount_short}
use Rattle.g_run_model.proofs.TakenLemmas.{TakesUnit, crew_after}
use Rattle.g_run_model.proofs.ProcessedLemmas.{process_short}

-- what a job's next turn begins with is within the limits
abbrev pub IsFit : JobState → Type 0
IsFit j = (length j.desk.units.writers ≤ 16) × IfSome j.pending (IsKeptWithin (room_of j))

-- THE JOBS are fit, and the rest of a turn's program satisfies its limits
pub record AreFit (jobs : List JobState) (next : ℕ) (turn : Option (ℕ × Asks Work)) : Type 0 where
  pub rising : AreRising 0 jobs next
  pub fits : (n : ℕ) (job : JobState) → numbered n jobs ≡ Some job → IsFit job
  pub gives : (n : ℕ) (p : Asks Work) → turn ≡ Some (n, p) → (job : JobState) → numbered n jobs ≡ Some job → AlwaysGives (Good (room_of job) 64 4096) p

begins_good : (j : JobState) (pending : Option Pending) → length j.desk.units.writers ≤ 16 → IfSome pending (IsKeptWithin (room_of j)) → AlwaysGives (Good (room_of j) 64 4096) (begins (room_of j) j.user pending (begin j))
begins_good j None few kept = runs_or_takes_gives (room_of j) j.user j.desk.running (begin j) (omega arith, lit≤ tt, lit≤ tt, few, tt, tt)
begins_good j (Some (AgainLine text)) few kept = line_gives (room_of j) j.user text (begin j) (omega arith, lit≤ tt, lit≤ tt, few, tt, tt)
begins_good j (Some (AgainCommand text orders blocks command)) few kept =
    does_fired_gives (room_of j) j.user command (with_kept text orders blocks (begin j)) (kept.0, kept.1, kept.2, few, tt, tt)

-- the end of a turn leaves a fit job
end_fits : (j : JobState) (w : Work) → Good (room_of j) 64 4096 w → (stop : Option Stop) (charge : Option Charge) → IfSome (end_by stop j w charge) (λ e. IsFit e.1 × (e.1.number ≡ j.number))
end_fits j w g (Some (Waits serial)) None = ((g.3, g.4), refl)
end_fits j w g (Some (Waits serial)) (Some charge) = tt
end_fits j w g (Some Broken) None = ((g.3, tt), refl)
end_fits j w g (Some Broken) (Some charge) = tt
end_fits j w g (Some Full) None = tt
end_fits j w g (Some Full) (Some charge) = ((g.3, tt), refl)
end_fits j w g (Some Done) None = tt
end_fits j w g (Some Done) (Some charge) = ((g.3, tt), refl)
end_fits j w g None None = tt
end_fits j w g None (Some charge) = by (is_time_up j charge) (is_money_up j charge)
  where
    by : (time money : Bool) → (let after : JobState = behind_turn (charged j w charge) (up_line time money (charged j w charge)) in IsFit after × (after.number ≡ j.number))
    by true money = ((g.3, tt), refl)
    by false true = ((g.3, tt), refl)
    by false false = ((g.3, tt), refl)

pub nobody : {P : Type 0} (t : Option (ℕ × Asks Work)) (p : ℕ × Asks Work) → t ≡ None → t ≡ Some p → P
nobody t p idle is = absurd (let no : ⊥ = cc in no)

-- the jobs are gone
pub fit_gone : (next : ℕ) (t : Option (ℕ × Asks Work)) → t ≡ None → AreFit [] next t
fit_gone next t idle = record {
  rising = (let low : 0 ≤ next = omega arith in low);
  fits = λ n job found. no_job job found;
  gives = λ n p is job found. no_job job found;
}

-- a job is added
fit_push : (jobs : List JobState) (next : ℕ) (t : Option (ℕ × Asks Work)) (job : JobState) → t ≡ None → job.number ≡ next → IsFit job → AreFit jobs next t → AreFit (jobs ++ job ∷ []) (next + 1) t
fit_push jobs next t job idle is fit h = record {
  rising = rising_push 0 jobs next job is h.rising;
  fits = λ n x found. by n x (found_push n jobs job x found);
  gives = λ n p asks x found. nobody t (n, p) idle asks;
}
  where
    by : (n : ℕ) (x : JobState) → (numbered n jobs ≡ Some x) ⊎ ((job.number ≡ n) × (x ≡ job)) → IsFit x
    by n x (inl old) = h.fits n x old
    by n x (inr new) = subst (λ (y : JobState). IsFit y) (sym new.1) fit

-- a turn begins
fit_begin : (jobs : List JobState) (next : ℕ) (s : State) (t : Option (ℕ × Asks Work)) (place : ℕ) (job : JobState) → slice_get (filter (can_step s) jobs) place ≡ Some job → AreFit jobs next t → AreFit jobs next (Some (job.number, turn_work job))
fit_begin jobs next s t place job there h = record {
  rising = h.rising;
  fits = h.fits;
  gives = λ n p is x found.
      let parts = some_pair_parts job.number n (turn_work job) p is in
      let mine = (listed (can_step s) 0 jobs next place job h.rising there).1 in
      let same : job ≡ x = one_job job x (sym mine ∙ ap (λ (y : ℕ). numbered y jobs) parts.0 ∙ found) in
      let fit = h.fits job.number job mine in
      subst (λ (y : Asks Work). AlwaysGives (Good (room_of x) 64 4096) y) parts.1
      (subst (λ (y : JobState). AlwaysGives (Good (room_of y) 64 4096) (turn_work job)) same (begins_good job job.pending fit.0 fit.1));
}

-- a call of it is answered
fit_answer : (jobs : List JobState) (next number : ℕ) (asked : StoreCall) (more : Answer → Asks Work) (answer : Answer) → MayAnswer asked answer → AreFit jobs next (Some (number, Call asked more)) → AreFit jobs next (Some (number, more answer))
fit_answer jobs next number asked more answer may h = record {
  rising = h.rising;
  fits = h.fits;
  gives = λ n p is x found.
      let parts = some_pair_parts number n (more answer) p is in
      subst (λ (y : Asks Work). AlwaysGives (Good (room_of x) 64 4096) y) parts.1
      (h.gives number (Call asked more) refl x (subst (λ (y : ℕ). numbered y jobs ≡ Some x) (sym parts.0) found) answer may);
}

-- a turn is over
fit_with : (jobs : List JobState) (next : ℕ) (t : Option (ℕ × Asks Work)) (after : JobState) → IsFit after → AreFit jobs next t → AreFit (with_job after jobs) next None
fit_with jobs next t after fit h = record {
  rising = rising_with after 0 jobs next h.rising;
  fits = λ n x found. by n x (after.number == n) refl found;
  gives = λ n p is x found. nobody None (n, p) refl is;
}
  where
    by : (n : ℕ) (x : JobState) (b : Bool) → (after.number == n) ≡ b → numbered n (with_job after jobs) ≡ Some x → IsFit x
    by n x true e found =
        let same : after.number ≡ n = eqb-true after.number n e in
        subst (λ (y : JobState). IsFit y) (sym (found_same after jobs x (subst (λ (y : ℕ). numbered y (with_job after jobs) ≡ Some x) (sym same) found))) fit
    by n x false e found = h.fits n x (sym (found_other after n e jobs) ∙ found)

fit_without : (jobs : List JobState) (next : ℕ) (t : Option (ℕ × Asks Work)) (gone : ℕ) → AreFit jobs next t → AreFit (without_job gone jobs) next None
fit_without jobs next t gone h = record {
  rising = rising_filter (λ (j : JobState). not (j.number == gone)) 0 jobs next h.rising;
  fits = λ n x found. by n x (gone == n) refl found;
  gives = λ n p is x found. nobody None (n, p) refl is;
}
  where
    by : (n : ℕ) (x : JobState) (b : Bool) → (gone == n) ≡ b → numbered n (without_job gone jobs) ≡ Some x → IsFit x
    by n x true e found = no_job x (sym (left_none n jobs) ∙ subst (λ (y : ℕ). numbered n (without_job y jobs) ≡ Some x) (eqb-true gone n e) found)
    by n x false e found = h.fits n x (sym (left_other gone n e jobs) ∙ found)

fit_over : (jobs : List JobState) (next : ℕ) (t : Option (ℕ × Asks Work)) (turn : Turn) (after : JobState) → IsFit after → AreFit jobs next t → AreFit (crew_after turn after jobs) next None
fit_over jobs next t turns.Broken after fit h = fit_gone next None refl
fit_over jobs next t (turns.Wants serial) after fit h = fit_with jobs next t after fit h
fit_over jobs next t (turns.Ran units money) after fit h = fit_with jobs next t after fit h
fit_over jobs next t (turns.Ended units money) after fit h = fit_without jobs next t after.number h

-- OF A WORLD
abbrev pub Both : World → Type 0
Both w = AreFit w.jobs w.next_job w.turn × AreShort w.store

both_is : (new v : World) → new ≡ v → Both v → Both new
both_is new v is h = subst (λ (x : World). Both x) (sym is) h

up_both : {R : Type 0} (said : R → List ℕ) (r : Result R StoreFault) (s : State) (w : World) → w.turn ≡ None → AreShort s → Both w → Both (tells (λ x t v. up_with (said x) t v) r s w)
up_both said (Ok x) s w idle short h = (h.0, short)
up_both said (Err Stopped) s w idle short h = (fit_gone w.next_job w.turn idle, short)
up_both said (Err fault) s w idle short h = (h.0, short)

stands_both : {R : Type 0} (said : R → List ℕ) (r : Result R StoreFault) (s : State) (w : World) → w.turn ≡ None → AreShort s → Both w → Both (tells (λ x t v. now_stands (said x) t v) r s w)
stands_both said (Ok x) s w idle short h = (h.0, short)
stands_both said (Err Stopped) s w idle short h = (fit_gone w.next_job w.turn idle, short)
stands_both said (Err fault) s w idle short h = (h.0, short)

rises_both : {R : Type 0} (Does : State → Outcome → Result R StoreFault → State → Type 0) (said : R → List ℕ) (o : Outcome) (w new : World) (b : Bool) → w.turn ≡ None → ((r : Result R StoreFault) (s : State) → Does w.store o r s → KeepsShort w.store s) → Both w
    → MatchBool (not b) ((r : Result R StoreFault) × (s : State) × (Does w.store o r s × IsTold o r) × (new ≡ tells (λ x t v. up_with (said x) t v) r s w)) ((o ≡ Plain) × (new ≡ line_refused Running w)) → Both new
rises_both Does said o w new true idle keeps h (plain, is) = both_is new (line_refused Running w) is h
rises_both Does said o w new false idle keeps h (r, s, (does, so), is) = both_is new (tells (λ x t v. up_with (said x) t v) r s w) is (up_both said r s w idle (keeps r s does h.1) h)

needs_both : {R : Type 0} (Does : Result R StoreFault → State → Type 0) (said : R → List ℕ) (o : Outcome) (w new : World) (b : Bool) → w.turn ≡ None → ((r : Result R StoreFault) (s : State) → Does r s → KeepsShort w.store s) → Both w
    → MatchBool b ((r : Result R StoreFault) × (s : State) × Does r s × (new ≡ tells (λ x t v. now_stands (said x) t v) r s w)) ((o ≡ Plain) × (new ≡ line_refused NotStarted w)) → Both new
needs_both Does said o w new true idle keeps h (r, s, does, is) = both_is new (tells (λ x t v. now_stands (said x) t v) r s w) is (stands_both said r s w idle (keeps r s does h.1) h)
needs_both Does said o w new false idle keeps h (plain, is) = both_is new (line_refused NotStarted w) is h

shuts_both : (d : Option OpenDump) (w new : World) → w.turn ≡ None → Both w → new ≡ shut_with d w → Both new
shuts_both (Some dump) w new idle h is = both_is new _ is h
shuts_both None w new idle h is = both_is new _ is (fit_gone w.next_job w.turn idle, short_down w.store h.1)

shut_both : (w new : World) (b : Bool) → w.turn ≡ None → Both w → new ≡ (if b then shut_with w.store.open_dump w else line_refused NotStarted w) → Both new
shut_both w new true idle h shuts = shuts_both w.store.open_dump w new idle h shuts
shut_both w new false idle h is = both_is new (line_refused NotStarted w) is h

job_both : (name user : List ℕ) (time money : ℕ) (lines : List (List ℕ)) (w : World) (refusal : Option (List ℕ)) → w.turn ≡ None → Both w → Both (job_line refusal (taken_in name user time money lines w) w)
job_both name user time money lines w None idle h = (fit_push w.jobs w.next_job w.turn (job_begun w.next_job name user time money lines) idle refl (lit≤ tt, tt) h.0, h.1)
job_both name user time money lines w (Some text) idle h = h

job_by_both : (name user : List ℕ) (time money : ℕ) (lines : List (List ℕ)) (w : World) (b : Bool) → w.turn ≡ None → Both w
    → Both (if b then job_line (job_refusal w user time money) (taken_in name user time money lines w) w else line_refused NotStarted w)
job_by_both name user time money lines w true idle h = job_both name user time money lines w (job_refusal w user time money) idle h
job_by_both name user time money lines w false idle h = h

login_both : (t : ℕ) (user : List ℕ) (time : ℕ) (w : World) (refusal : Option (List ℕ)) → w.turn ≡ None → Both w → Both (job_line refusal (logged_in t user time w) w)
login_both t user time w None idle h = (fit_push w.jobs w.next_job w.turn (terminal_job w.next_job t user time) idle refl (lit≤ tt, tt) h.0, h.1)
login_both t user time w (Some text) idle h = h

login_by_both : (t : ℕ) (user : List ℕ) (time : ℕ) (w : World) (b : Bool) → w.turn ≡ None → Both w
    → Both (if b then job_line (login_refusal w t user time) (logged_in t user time w) w else line_refused NotStarted w)
login_by_both t user time w true idle h = login_both t user time w (login_refusal w t user time) idle h
login_by_both t user time w false idle h = h

changed_both : (t : ℕ) (change : Stack → Stack) (w : World) (j : Option JobState) → open_at t w.jobs ≡ j → w.turn ≡ None → Both w → Both (changed_at t (with_stack change) j w)
changed_both t change w None is idle h = h
changed_both t change w (Some j) is idle h =
    let found = found_by (λ (x : JobState). sits_at t x && x.desk.levels.held) 0 w.jobs w.next_job j h.0.rising is in
    let fit : IsFit (with_stack change j) = h.0.fits j.number j found.1 in
    (subst (λ (x : Option (ℕ × Asks Work)). AreFit (with_job (with_stack change j) w.jobs) w.next_job x) (sym idle) (fit_with w.jobs w.next_job w.turn (with_stack change j) fit h.0), h.1)

typed_both : (t : ℕ) (change : Stack → Stack) (w : World) (b : Bool) → w.turn ≡ None → Both w → Both (if b then at_terminal t (with_stack change) w else line_refused NotStarted w)
typed_both t change w true idle h = changed_both t change w (open_at t w.jobs) refl idle h
typed_both t change w false idle h = h

-- A LINE
line_both : (o : Outcome) (what : Operator) (w new : World) → w.turn ≡ None → Both w → LineGives o what w new → Both new
line_both o line.Format w new idle h gives = rises_both FormatStep (λ r. codes "FORMATTED") o w new w.store.up idle (λ r s does. format_short w.store o r s does) h gives
line_both o line.Start w new idle h gives = rises_both StartStep started_text o w new w.store.up idle (λ r s does. start_short w.store o r s does) h gives
line_both o line.Restore w new idle h gives = rises_both RestoreStep (λ n. codes "RESTORED FROM DUMP " ++ decimal n) o w new w.store.up idle (λ r s does. restore_short w.store o r s does) h gives
line_both o line.Shut w new idle h (plain, gives) = shut_both w new w.store.up idle h gives
line_both o (line.Job name user time money lines) w new idle h (plain, is) = both_is new _ is (job_by_both name user time money lines w w.store.up idle h)
line_both o (line.Mount serial) w new idle h (r, s, (plain, does), is) = both_is new _ is (stands_both (λ _. tape_text serial (codes "MOUNTED")) r s w idle (mount_short w.store serial r s does h.1) h)
line_both o (line.Unmount serial) w new idle h (r, s, (plain, does), is) = both_is new _ is (stands_both (λ _. tape_text serial (codes "UNMOUNTED")) r s w idle (unmount_short w.store serial r s does h.1) h)
line_both o (line.Dump serial) w new idle h gives =
    needs_both (λ r s. IsOpening w.store serial o r s) (λ n. dump_text n (codes "OPENED")) o w new w.store.up idle (λ r s (k, holds, step, so). open_short w.store k serial o r s holds step) h gives
line_both o (line.Process serial) w new idle h gives =
    needs_both (λ r s. IsProcessing w.store serial o r s) (processed_text serial) o w new w.store.up idle (λ r s (k, holds, step, so). process_short w.store k serial o r s holds step) h gives
line_both o (line.Migrate path) w new idle h gives =
    needs_both (λ r s. IsMigration w.store path o r s) (λ full. codes "MIGRATED " ++ full_text full) o w new w.store.up idle (λ r s (k, holds, step, so). migrate_short w.store k _ _ o r s holds step) h gives
line_both o (line.StopDisc k) w new idle h (plain, is) = both_is new _ is h
line_both o (line.StopTape k) w new idle h (plain, is) = both_is new _ is h
line_both o (line.Login t user time) w new idle h (plain, is) = both_is new _ is (login_by_both t user time w w.store.up idle h)
line_both o (line.Typed t text) w new idle h (plain, is) = both_is new _ is (typed_both t (with_typed text) w w.store.up idle h)
line_both o (line.Logout t) w new idle h (plain, is) = both_is new _ is (typed_both t finished w w.store.up idle h)

dump_both : (n : ℕ) (r : Result DumpStepped StoreFault) (s : State) (w : World) → w.turn ≡ None → AreShort s → Both w → Both (dump_told n r s w)
dump_both n (Ok Going) s w idle short h = (h.0, short)
dump_both n (Ok (Completed m)) s w idle short h = (h.0, short)
dump_both n (Err Stopped) s w idle short h = (fit_gone w.next_job w.turn idle, short)
dump_both n (Err fault) s w idle short h = (h.0, short)

over_both : (after : JobState) (t : Turn) (w : World) → AreFit (crew_after t after w.jobs) w.next_job None → AreShort w.store
    → AreFit (turn_told after t w).jobs (turn_told after t w).next_job None × AreShort (turn_told after t w).store
over_both after turns.Broken w fit short = (fit, short)
over_both after (turns.Wants serial) w fit short = (fit, short)
over_both after (turns.Ran units money) w fit short = (fit, short)
over_both after (turns.Ended units money) w fit short = (fit, short)

module _ {F U : Type 0} (tariffs : Shared F (Bor Usage × Unit {0}) Charge) (tariff : F) (rules : Shared U (Bor Standing × Unit {0}) ℕ) (rule : U) (plainly : AnswersPlainly) where
  -- what a turn has made when it is over
  made : (w : World) (number : ℕ) (work : Work) (job : JobState) → Both w → w.turn ≡ Some (number, Gives work) → numbered number w.jobs ≡ Some job → Good (room_of job) 64 4096 work
  made w number work job h asks here = h.0.gives number (Gives work) asks job here

  -- A MOVE
  pub step_both : (w new : World) (move : Move) → Both w → Step tariffs tariff rules rule w move new → Both new
  step_both w new (TakeLine tape o) h (next, rest, lines, between, idle, due, is_tape, gives) = line_both o next.what (record w { lines = rest }) new idle h gives
  step_both w new (Dumped o) h (between, idle, undue, dumping, (r, s, (k, d, holds, opened, step, so), is)) = both_is new _ is (dump_both _ r s w idle (dump_short w.store k d o r s holds opened step h.1) h)
  step_both w new (Begin number) h (idle, undue, ready, (place, job, chosen, there, named, is)) = both_is new _ is (fit_begin w.jobs w.next_job w.store w.turn place job there h.0, h.1)
  step_both w new (Answered o) h (number, call, more, job, answer, s, asks, here, (k, holds, step, so), real, is) =
      let now : AreFit w.jobs w.next_job (Some (number, Call call more)) = subst (λ (t : Option (ℕ × Asks Work)). AreFit w.jobs w.next_job t) asks h.0 in
      both_is new _ is (fit_answer w.jobs w.next_job number call more answer (may_answer plainly w.store k job.user call o answer s holds h.1 step real) now, call_short w.store k job.user call holds o answer s step h.1)
  step_both w new (TurnOver number charge) h (work, job, turn, after, asks, here, priced, ends, is) =
      let end = subst (λ (e : Option (Turn × JobState)). IfSome e (λ x. IsFit x.1 × (x.1.number ≡ job.number))) ends (end_fits job work (made w number work job h asks here) work.stop charge) in
      both_is new _ is (over_both after turn (shows job after w) (fit_over w.jobs w.next_job w.turn turn after end.0 h.0) h.1)
  step_both w new Ticked h (idle, done, is) = both_is new _ is h
  step_both w new Over h (between, idle, lines, nothing, going, is) = both_is new _ is (fit_gone w.next_job w.turn idle, h.1)

  module _ (rules_it : IsTariff tariffs tariff) where
    step_unit : (w new : World) (move : Move) → Both w → Step tariffs tariff rules rule w move new → TakesUnit move
    step_unit w new (TurnOver number (Some charge)) h (work, job, turn, after, asks, here, priced, ends, is) =
        let good = made w number work job h asks here in
        (rules_it.charges priced.shown charge (subst IsUsage (sym priced.shows) (record { orders = good.1; blocks = good.2 })) priced.says.met).something
    step_unit w new (TurnOver number None) h step = tt
    step_unit w new (TakeLine tape o) h step = tt
    step_unit w new (Dumped o) h step = tt
    step_unit w new (Begin number) h step = tt
    step_unit w new (Answered o) h step = tt
    step_unit w new Ticked h step = tt
    step_unit w new Over h step = tt

    run_units : (moves : List Move) (w last : World) → Both w → Run tariffs tariff rules rule w moves last → AllByRecursion TakesUnit moves
    run_units [] w last h run = tt
    run_units (move ∷ moves) w last h (mid, step, run) = (step_unit w mid move h step, run_units moves mid last (step_both w mid move h step) run)

    -- EACH CHARGE of a run takes a unit
    pub units_taken : (lines : List Timed) (bad : Option ℕ) (s : State) (moves : List Move) (last : World) → AreShort s → Run tariffs tariff rules rule (start lines bad s) moves last → AllByRecursion TakesUnit moves
    units_taken lines bad s moves last short run = run_units moves (start lines bad s) last (fit_gone 1 None refl, short) run
