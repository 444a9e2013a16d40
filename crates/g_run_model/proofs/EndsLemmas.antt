-- A job has at most one more free turn than there were MOUNT lines, and at most its allowance of charged ones.
-- serves: jobs_come_to_an_end, OneTextLemmas, crates above
use Rattle.std.proofs.Common.{◌≡◌, ◌<◌, ◌≤◌, ◌+◌, ◌-◌, ◌⊎◌, ◌&&◌, ℕ, Bool, true, false, cond, List, [], ◌∷◌, ◌++◌, filter, length, length-append, take, sum_by, Option, Some, None, refl, sym, ◌∙◌, ap, subst, inl, inr, if◌then◌else◌, append_assoc, codes, arith}
use Rattle.std.proofs.lemmas.Bool.{false≢true}
use Rattle.std.proofs.lemmas.List.Elements.{recursion_from_All}
use Rattle.std.proofs.lemmas.List.Sums.{sum_by-cons}
use Rattle.std.specs.List.{AllByRecursion}
use Rattle.std.specs.Prelude.{not, MatchBool, Result, Ok, Err}
use Rattle.std.specs.Fmt.{decimal}
use Rattle.std.specs.Fn.{Shared}
use denote.Ref.{Bor}
use Rattle.g_turn.specs.State.{Work}
use Rattle.g_rules.specs.declared.tariff.Charge.{Charge}
use Rattle.g_rules.specs.declared.tariff.Usage.{Usage}
use Rattle.g_job.specs.Beginning.{job_begun}
use Rattle.g_job.specs.State.{JobState}
use Rattle.g_rules.specs.declared.turn.Turn.{Turn}
use Rattle.g_rules.specs.declared.turn.Turn.TheVariants as turns
use Rattle.g_monitor.specs.Parts.{full_text}
use Rattle.g_plain.specs.Programs.{Answer, Asks, Call, Gives}
use Rattle.g_plain.specs.declared.calls.StoreCall.{StoreCall}
use Rattle.g_plain.specs.declared.faults.StoreFault.{StoreFault}
use Rattle.g_plain.specs.declared.faults.StoreFault.TheVariants.{NotStarted, Running, Stopped, WaitTape}
use Rattle.g_rules.specs.declared.rule.Standing.{Standing}
use Rattle.g_script.specs.declared.operator.Operator.{Operator}
use Rattle.g_script.specs.declared.operator.Operator.TheVariants as line
use Rattle.g_script.specs.declared.operator.Timed.{Timed}
use Rattle.g_store_model.specs.CallStep.{CallStep, Outcome, Plain}
use Rattle.g_store_model.specs.DumpSteps.{Completed, Going, Stepped as DumpStepped}
use Rattle.g_store_model.specs.Laws.{AnswersPlainly}
use Rattle.g_store_model.specs.Rising.{FormatStep, RestoreStep, StartStep}
use Rattle.g_store_model.specs.State.{Holding, OpenDump, State}
use Rattle.g_run_model.specs.Events.{IsMigration, IsOpening, IsTold, IsProcessing}
use Rattle.g_run_model.specs.Laws.{IsTimed, RunsEnd, charged_in, free_in, is_mount, lines_done}
use Rattle.g_run_model.specs.Lines.{LineGives, shut_with, at_terminal, changed_at, job_line, job_refusal, line_refused, logged_in, login_refusal, now_stands, open_at, sits_at, taken_in, tells, terminal_job, up_with}
use Rattle.g_job.specs.Terminal.{with_stack}
use Rattle.g_macro.specs.Holding.{finished, with_typed}
use Rattle.g_macro.specs.Levels.{Stack}
use Rattle.g_run_model.specs.Moves.{Answered, Begin, Dumped, Move, Over, Run, Step, TakeLine, Ticked, TurnOver, dump_told, turn_told}
use Rattle.g_run_model.specs.Texts.{dump_text, started_text, tape_text, processed_text}
use Rattle.g_run_model.specs.World.{World, job_of, start, shows}
use Rattle.g_run_model.proofs.CrewLemmas.{found_by, no_job, number_of, one_job}
use Rattle.g_run_model.proofs.MountLemmas.{NoMount, call_mounts, dump_mounts, format_mounts, migrate_mounts, open_mounts, restore_mounts, start_mounts, unmount_mounts, wait_unmounted}
use Rattle.g_run_model.proofs.PricedLemmas.{units_taken}
use Rattle.g_run_model.proofs.TakenLemmas.{IsCandid, IsTaken, IsTakenIn, TakesUnit, charged_over, crew_after, free_over, taken_answer, taken_begin, taken_edit, taken_gone, taken_mount, taken_on, taken_push}
use Rattle.g_run_model.proofs.ProcessedLemmas.{process_mounts}

-- a program that was answered waits at once, or was stopped, or says so when it does
candid_on : (s : State) (k : Holding) (who : List ℕ) (call : StoreCall) (o : Outcome) (more : Answer → Asks Work) (answer : Answer) (new : State) → CallStep s k who call o answer new
    → IsCandid s (Call call more) → IsCandid new (more answer)
candid_on s k who call o more (Err (WaitTape serial)) new step (inl honest) = inr (inl (serial, honest.0 serial, wait_unmounted s k who call o serial new step))
candid_on s k who call o more (Err Stopped) new step (inl honest) = inr (inr honest.1)
candid_on s k who call o more answer new step (inl honest) = inl (honest.2 answer tt)
candid_on s k who call o more answer new step (inr (inl (serial, stops, low))) = absurd stops
candid_on s k who call o more answer new step (inr (inr stops)) = absurd stops

-- this many in all moves
abbrev pub all_in : (Move → ℕ) → List Move → ℕ
all_in g [] = 0
all_in g (move ∷ moves) = g move + all_in g moves

-- the lines of MOUNT
abbrev pub mounts : List Timed → ℕ
mounts lines = length (filter is_mount lines)

-- the lines that remain after a move, and how many MOUNT lines were done
abbrev pub LinesGo : List Timed → List Timed → ℕ → ℕ → Type 0
LinesGo old new m m2 = ((new ≡ old) × (m2 ≡ m)) ⊎ ((next : Timed) × (old ≡ next ∷ new) × (m2 ≡ m + mounts (next ∷ [])))

module _ (n : ℕ) (u q : Bool) (a : ℕ) where
  -- what is known after a line
  abbrev Keeps : ℕ → ℕ → ℕ → List Timed → World → Type 0
  Keeps f m c rest w = IsTakenIn n u q a f m c w × (w.lines ≡ rest)

  module _ (f m c : ℕ) (rest : List Timed) where
    keeps_is : (new v : World) → new ≡ v → Keeps f m c rest v → Keeps f m c rest new
    keeps_is new v is h = subst (λ (x : World). Keeps f m c rest x) (sym is) h

    up_keeps : {R : Type 0} (said : R → List ℕ) (r : Result R StoreFault) (s : State) (w : World) → w.turn ≡ None → NoMount w.store s → Keeps f m c rest w
        → Keeps f m c rest (tells (λ x t v. up_with (said x) t v) r s w)
    up_keeps said (Ok x) s w idle fewer h = (taken_on n u q a f m c w.jobs w.next_job w.store s w.turn idle fewer h.0, h.1)
    up_keeps said (Err Stopped) s w idle fewer h = (taken_gone n u q a f m c w.jobs w.next_job w.store s w.turn w.turn idle h.0, h.1)
    up_keeps said (Err fault) s w idle fewer h = (taken_on n u q a f m c w.jobs w.next_job w.store s w.turn idle fewer h.0, h.1)

    stands_keeps : {R : Type 0} (said : R → List ℕ) (r : Result R StoreFault) (s : State) (w : World) → w.turn ≡ None → NoMount w.store s → Keeps f m c rest w
        → Keeps f m c rest (tells (λ x t v. now_stands (said x) t v) r s w)
    stands_keeps said (Ok x) s w idle fewer h = (taken_on n u q a f m c w.jobs w.next_job w.store s w.turn idle fewer h.0, h.1)
    stands_keeps said (Err Stopped) s w idle fewer h = (taken_gone n u q a f m c w.jobs w.next_job w.store s w.turn w.turn idle h.0, h.1)
    stands_keeps said (Err fault) s w idle fewer h = (taken_on n u q a f m c w.jobs w.next_job w.store s w.turn idle fewer h.0, h.1)

    mount_keeps : {R : Type 0} (said : R → List ℕ) (r : Result R StoreFault) (s : State) (w : World) → w.turn ≡ None → Keeps f m c rest w
        → Keeps f (m + 1) c rest (tells (λ x t v. now_stands (said x) t v) r s w)
    mount_keeps said (Ok x) s w idle h = (taken_mount n u q a f m c w.jobs w.next_job w.store s w.turn idle h.0, h.1)
    mount_keeps said (Err Stopped) s w idle h =
        (taken_mount n u q a f m c [] w.next_job s s w.turn idle (taken_gone n u q a f m c w.jobs w.next_job w.store s w.turn w.turn idle h.0), h.1)
    mount_keeps said (Err fault) s w idle h = (taken_mount n u q a f m c w.jobs w.next_job w.store s w.turn idle h.0, h.1)

    rises_keeps : {R : Type 0} (Does : State → Outcome → Result R StoreFault → State → Type 0) (said : R → List ℕ) (o : Outcome) (w new : World) (b : Bool) → w.turn ≡ None
        → ((r : Result R StoreFault) (s : State) → Does w.store o r s → NoMount w.store s) → Keeps f m c rest w
        → MatchBool (not b) ((r : Result R StoreFault) × (s : State) × (Does w.store o r s × IsTold o r) × (new ≡ tells (λ x t v. up_with (said x) t v) r s w)) ((o ≡ Plain) × (new ≡ line_refused Running w))
        → Keeps f m c rest new
    rises_keeps Does said o w new true idle fewer h (plain, is) = keeps_is new (line_refused Running w) is h
    rises_keeps Does said o w new false idle fewer h (r, s, (does, so), is) = keeps_is new (tells (λ x t v. up_with (said x) t v) r s w) is (up_keeps said r s w idle (fewer r s does) h)

    needs_keeps : {R : Type 0} (Does : Result R StoreFault → State → Type 0) (said : R → List ℕ) (o : Outcome) (w new : World) (b : Bool) → w.turn ≡ None
        → ((r : Result R StoreFault) (s : State) → Does r s → NoMount w.store s) → Keeps f m c rest w
        → MatchBool b ((r : Result R StoreFault) × (s : State) × Does r s × (new ≡ tells (λ x t v. now_stands (said x) t v) r s w)) ((o ≡ Plain) × (new ≡ line_refused NotStarted w))
        → Keeps f m c rest new
    needs_keeps Does said o w new true idle fewer h (r, s, does, is) = keeps_is new (tells (λ x t v. now_stands (said x) t v) r s w) is (stands_keeps said r s w idle (fewer r s does) h)
    needs_keeps Does said o w new false idle fewer h (plain, is) = keeps_is new (line_refused NotStarted w) is h

    shuts_keeps : (d : Option OpenDump) (w new : World) → w.turn ≡ None → Keeps f m c rest w → new ≡ shut_with d w → Keeps f m c rest new
    shuts_keeps (Some dump) w new idle h is = keeps_is new _ is h
    shuts_keeps None w new idle h is = keeps_is new _ is (taken_gone n u q a f m c w.jobs w.next_job w.store _ w.turn w.turn idle h.0, h.1)

    shut_keeps : (w new : World) (b : Bool) → w.turn ≡ None → Keeps f m c rest w → new ≡ (if b then shut_with w.store.open_dump w else line_refused NotStarted w) → Keeps f m c rest new
    shut_keeps w new true idle h shuts = shuts_keeps w.store.open_dump w new idle h shuts
    shut_keeps w new false idle h is = keeps_is new (line_refused NotStarted w) is h

    job_keeps : (name user : List ℕ) (time money : ℕ) (lines : List (List ℕ)) (w : World) (refusal : Option (List ℕ)) → w.turn ≡ None → (1 ≤ time) × (time ≤ 1000000) → Keeps f m c rest w
        → Keeps f m c rest (job_line refusal (taken_in name user time money lines w) w)
    job_keeps name user time money lines w None idle timed h =
        let least : 1 ≤ time = timed.0 in
        (taken_push n u q a f m c w.jobs w.next_job w.store w.turn (job_begun w.next_job name user time money lines) idle refl (omega (arith, least), timed.1) h.0, h.1)
    job_keeps name user time money lines w (Some text) idle timed h = h

    job_by_keeps : (name user : List ℕ) (time money : ℕ) (lines : List (List ℕ)) (w : World) (b : Bool) → w.turn ≡ None → (1 ≤ time) × (time ≤ 1000000) → Keeps f m c rest w
        → Keeps f m c rest (if b then job_line (job_refusal w user time money) (taken_in name user time money lines w) w else line_refused NotStarted w)
    job_by_keeps name user time money lines w true idle timed h = job_keeps name user time money lines w (job_refusal w user time money) idle timed h
    job_by_keeps name user time money lines w false idle timed h = h

    login_keeps : (t : ℕ) (user : List ℕ) (time : ℕ) (w : World) (refusal : Option (List ℕ)) → w.turn ≡ None → (1 ≤ time) × (time ≤ 1000000) → Keeps f m c rest w
        → Keeps f m c rest (job_line refusal (logged_in t user time w) w)
    login_keeps t user time w None idle timed h =
        let least : 1 ≤ time = timed.0 in
        (taken_push n u q a f m c w.jobs w.next_job w.store w.turn (terminal_job w.next_job t user time) idle refl (omega (arith, least), timed.1) h.0, h.1)
    login_keeps t user time w (Some text) idle timed h = h

    login_by_keeps : (t : ℕ) (user : List ℕ) (time : ℕ) (w : World) (b : Bool) → w.turn ≡ None → (1 ≤ time) × (time ≤ 1000000) → Keeps f m c rest w
        → Keeps f m c rest (if b then job_line (login_refusal w t user time) (logged_in t user time w) w else line_refused NotStarted w)
    login_by_keeps t user time w true idle timed h = login_keeps t user time w (login_refusal w t user time) idle timed h
    login_by_keeps t user time w false idle timed h = h

    changed_keeps : (t : ℕ) (change : Stack → Stack) (w : World) (j : Option JobState) → open_at t w.jobs ≡ j → w.turn ≡ None → Keeps f m c rest w → Keeps f m c rest (changed_at t (with_stack change) j w)
    changed_keeps t change w None is idle h = h
    changed_keeps t change w (Some j) is idle h =
        let found = found_by (λ (x : JobState). sits_at t x && x.desk.levels.held) 0 w.jobs w.next_job j h.0.rising is in
        (taken_edit n u q a f m c w.jobs w.next_job w.store w.turn j (record j.desk { levels = change j.desk.levels }) idle found.1 h.0, h.1)

    typed_keeps : (t : ℕ) (change : Stack → Stack) (w : World) (b : Bool) → w.turn ≡ None → Keeps f m c rest w → Keeps f m c rest (if b then at_terminal t (with_stack change) w else line_refused NotStarted w)
    typed_keeps t change w true idle h = changed_keeps t change w (open_at t w.jobs) refl idle h
    typed_keeps t change w false idle h = h

    -- A LINE, by what it requires
    line_keeps : (at : ℕ) (o : Outcome) (what : Operator) (w new : World) → IsTimed (record { turn = at; what = what }) → w.turn ≡ None → Keeps f m c rest w → LineGives o what w new
        → (m2 : ℕ) × (m2 ≡ m + mounts (record { turn = at; what = what } ∷ [])) × Keeps f m2 c rest new
    line_keeps at o line.Format w new timed idle h gives =
        (m, omega arith, rises_keeps FormatStep (λ r. codes "FORMATTED") o w new w.store.up idle (λ r s does. format_mounts w.store o r s does) h gives)
    line_keeps at o line.Start w new timed idle h gives =
        (m, omega arith, rises_keeps StartStep started_text o w new w.store.up idle (λ r s does. start_mounts w.store o r s does) h gives)
    line_keeps at o line.Restore w new timed idle h gives =
        (m, omega arith, rises_keeps RestoreStep (λ x. codes "RESTORED FROM DUMP " ++ decimal x) o w new w.store.up idle (λ r s does. restore_mounts w.store o r s does) h gives)
    line_keeps at o line.Shut w new timed idle h (plain, gives) = (m, omega arith, shut_keeps w new w.store.up idle h gives)
    line_keeps at o (line.Job name user time money lines) w new timed idle h (plain, is) =
        (m, omega arith, keeps_is new _ is (job_by_keeps name user time money lines w w.store.up idle timed h))
    line_keeps at o (line.Mount serial) w new timed idle h (r, s, does, is) =
        (m + 1, refl, subst (λ (x : World). Keeps f (m + 1) c rest x) (sym is) (mount_keeps (λ _. tape_text serial (codes "MOUNTED")) r s w idle h))
    line_keeps at o (line.Unmount serial) w new timed idle h (r, s, (plain, does), is) =
        (m, omega arith, keeps_is new _ is (stands_keeps (λ _. tape_text serial (codes "UNMOUNTED")) r s w idle (unmount_mounts w.store serial r s does) h))
    line_keeps at o (line.Dump serial) w new timed idle h gives = (
      m,
      omega arith,
      needs_keeps (λ r s. IsOpening w.store serial o r s) (λ x. dump_text x (codes "OPENED")) o w new w.store.up idle
          (λ r s (k, holds, step, so). open_mounts w.store k serial o r s step) h gives,
    )
    line_keeps at o (line.Process serial) w new timed idle h gives = (
      m,
      omega arith,
      needs_keeps (λ r s. IsProcessing w.store serial o r s) (processed_text serial) o w new w.store.up idle
          (λ r s (k, holds, step, so). process_mounts w.store k serial o r s step) h gives,
    )
    line_keeps at o (line.Migrate path) w new timed idle h gives = (
      m,
      omega arith,
      needs_keeps (λ r s. IsMigration w.store path o r s) (λ full. codes "MIGRATED " ++ full_text full) o w new w.store.up idle
          (λ r s (k, holds, step, so). migrate_mounts w.store k _ _ o r s step) h gives,
    )
    line_keeps at o (line.StopDisc k) w new timed idle h (plain, is) = (m, omega arith, keeps_is new _ is h)
    line_keeps at o (line.StopTape k) w new timed idle h (plain, is) = (m, omega arith, keeps_is new _ is h)
    line_keeps at o (line.Login t user time) w new timed idle h (plain, is) = (m, omega arith, keeps_is new _ is (login_by_keeps t user time w w.store.up idle timed h))
    line_keeps at o (line.Typed t text) w new timed idle h (plain, is) = (m, omega arith, keeps_is new _ is (typed_keeps t (with_typed text) w w.store.up idle h))
    line_keeps at o (line.Logout t) w new timed idle h (plain, is) = (m, omega arith, keeps_is new _ is (typed_keeps t finished w w.store.up idle h))

    -- a step of the dump
    dump_keeps : (number : ℕ) (r : Result DumpStepped StoreFault) (s : State) (w : World) → w.turn ≡ None → NoMount w.store s → Keeps f m c rest w → Keeps f m c rest (dump_told number r s w)
    dump_keeps number (Ok Going) s w idle fewer h = (taken_on n u q a f m c w.jobs w.next_job w.store s w.turn idle fewer h.0, h.1)
    dump_keeps number (Ok (Completed x)) s w idle fewer h = (taken_on n u q a f m c w.jobs w.next_job w.store s w.turn idle fewer h.0, h.1)
    dump_keeps number (Err Stopped) s w idle fewer h = (taken_gone n u q a f m c w.jobs w.next_job w.store s w.turn w.turn idle h.0, h.1)
    dump_keeps number (Err fault) s w idle fewer h = (taken_on n u q a f m c w.jobs w.next_job w.store s w.turn idle fewer h.0, h.1)

    -- the end of a turn
    turned : (after : JobState) (t : Turn) (w : World) → IsTaken n u q a f m c (crew_after t after w.jobs) w.next_job w.store None → w.lines ≡ rest
        → IsTaken n u q a f m c (turn_told after t w).jobs (turn_told after t w).next_job (turn_told after t w).store None × ((turn_told after t w).lines ≡ rest)
    turned after turns.Broken w h lines = (h, lines)
    turned after (turns.Wants serial) w h lines = (h, lines)
    turned after (turns.Ran units money) w h lines = (h, lines)
    turned after (turns.Ended units money) w h lines = (h, lines)

  -- what is known after a move
  abbrev pub Goes : ℕ → ℕ → ℕ → World → Move → World → Type 0
  Goes f m c w move new =
      (f2 : ℕ) × (m2 : ℕ) × (c2 : ℕ) × (f2 ≡ f + free_in n move) × (c2 ≡ c + charged_in n move) × IsTakenIn n u q a f2 m2 c2 new × LinesGo w.lines new.lines m m2

  goes_with : (f m c f2 c2 : ℕ) (w new : World) (move : Move) → f2 ≡ f + free_in n move → c2 ≡ c + charged_in n move → Keeps f2 m c2 w.lines new → Goes f m c w move new
  goes_with f m c f2 c2 w new move ef ec h = (f2, m, c2, ef, ec, h.0, inl (h.1, refl))

  module _ {F U : Type 0} (tariffs : Shared F (Bor Usage × Unit {0}) Charge) (tariff : F) (rules : Shared U (Bor Standing × Unit {0}) ℕ) (rule : U) where
    -- A MOVE
    pub step_goes : (f m c : ℕ) (w new : World) (move : Move) → (u ≡ true → TakesUnit move) → AllByRecursion IsTimed w.lines → IsTakenIn n u q a f m c w → Step tariffs tariff rules rule w move new
        → Goes f m c w move new
    step_goes f m c w new (TakeLine tape o) unit timed h (next, rest, lines, between, idle, due, is_tape, gives) =
        let said = subst (λ (ls : List Timed). AllByRecursion IsTimed ls) lines timed in
        let done = line_keeps f m c rest next.turn o next.what (record w { lines = rest }) new said.0 idle (h, refl) gives in
        (f, done.0, c, omega arith, omega arith, done.2.0, inr (next, lines ∙ ap (λ (ls : List Timed). next ∷ ls) (sym done.2.1), done.1))
    step_goes f m c w new (Dumped o) unit timed h (between, idle, undue, dumping, (r, s, (k, d, holds, opened, step, so), is)) =
        goes_with f m c f c w new (Dumped o) (omega arith) (omega arith)
        (keeps_is f m c w.lines new _ is (dump_keeps f m c w.lines _ r s w idle (dump_mounts w.store k d o r s step) (h, refl)))
    step_goes f m c w new (Begin number) unit timed h (idle, undue, ready, (place, job, chosen, there, named, is)) =
        goes_with f m c f c w new (Begin number) (omega arith) (omega arith)
        (keeps_is f m c w.lines new _ is (taken_begin n u q a f m c w.jobs w.next_job w.store w.turn place job there h, refl))
    step_goes f m c w new (Answered o) unit timed h (number, call, more, job, answer, s, asks, here, (k, holds, step, so), real, is) =
        let now : IsTaken n u q a f m c w.jobs w.next_job w.store (Some (number, Call call more)) = subst (λ (t : Option (ℕ × Asks Work)). IsTaken n u q a f m c w.jobs w.next_job w.store t) asks h in
        goes_with f m c f c w new (Answered o) (omega arith) (omega arith)
        (keeps_is f m c w.lines new _ is (
          taken_answer n u q a f m c w.jobs w.next_job w.store s number (Call call more) (more answer) (call_mounts w.store k job.user call o answer s step)
              (λ candid. candid_on w.store k job.user call o more answer s step candid) now,
          refl,
        ))
    step_goes f m c w new (TurnOver number None) unit timed h (work, job, turn, after, asks, here, priced, ends, is) =
        let now : IsTaken n u q a f m c w.jobs w.next_job w.store (Some (number, Gives work)) = subst (λ (t : Option (ℕ × Asks Work)). IsTaken n u q a f m c w.jobs w.next_job w.store t) asks h in
        let over = free_over n u q a f m c w.jobs w.next_job w.store number (Gives work) job here now work turn after refl ends in
        goes_with f m c over.0 over.1 w new (TurnOver number None) over.2 over.3
        (subst (λ (x : World). Keeps over.0 m over.1 w.lines x) (sym is) (turned over.0 m over.1 w.lines after turn (shows job after w) over.4 refl))
    step_goes f m c w new (TurnOver number (Some charge)) unit timed h (work, job, turn, after, asks, here, priced, ends, is) =
        let now : IsTaken n u q a f m c w.jobs w.next_job w.store (Some (number, Gives work)) = subst (λ (t : Option (ℕ × Asks Work)). IsTaken n u q a f m c w.jobs w.next_job w.store t) asks h in
        let over = charged_over n u q a f m c w.jobs w.next_job w.store number (Gives work) job here now work charge turn after unit refl ends in
        goes_with f m c over.0 over.1 w new (TurnOver number (Some charge)) over.2 over.3
        (subst (λ (x : World). Keeps over.0 m over.1 w.lines x) (sym is) (turned over.0 m over.1 w.lines after turn (shows job after w) over.4 refl))
    step_goes f m c w new Ticked unit timed h (idle, done, is) = goes_with f m c f c w new Ticked (omega arith) (omega arith) (keeps_is f m c w.lines new _ is (h, refl))
    step_goes f m c w new Over unit timed h (between, idle, lines, nothing, going, is) =
        goes_with f m c f c w new Over (omega arith) (omega arith)
        (keeps_is f m c w.lines new _ is (taken_gone n u q a f m c w.jobs w.next_job w.store w.store w.turn w.turn idle h, refl))

    pub timed_on : (old new : List Timed) (m m2 : ℕ) → LinesGo old new m m2 → AllByRecursion IsTimed old → AllByRecursion IsTimed new
    timed_on old new m m2 (inl same) timed = subst (λ (ls : List Timed). AllByRecursion IsTimed ls) (sym same.0) timed
    timed_on old new m m2 (inr one) timed = (subst (λ (ls : List Timed). AllByRecursion IsTimed ls) one.1 timed).1

    mounts-push : (done : List Timed) (next : Timed) → mounts (done ++ next ∷ []) ≡ mounts done + mounts (next ∷ [])
    mounts-push [] next = omega arith
    mounts-push (d ∷ done) next = by (is_mount d) (mounts-push done next)
      where
        by : (b : Bool) → mounts (done ++ next ∷ []) ≡ mounts done + mounts (next ∷ []) → length (cond b (d ∷ filter is_mount (done ++ next ∷ [])) (filter is_mount (done ++ next ∷ []))) ≡ length (cond b (d ∷ filter is_mount done) (filter is_mount done)) + mounts (next ∷ [])
        by true rest = omega (arith, rest)
        by false rest = rest

    -- the lines that were done, and the MOUNT lines among them
    abbrev AreDone : List Timed → List Timed → List Timed → ℕ → Type 0
    AreDone lines done left m = (lines ≡ done ++ left) × (m ≡ mounts done)

    done_on : (lines done old new : List Timed) (m m2 : ℕ) → AreDone lines done old m → LinesGo old new m m2 → (more : List Timed) × AreDone lines more new m2
    done_on lines done old new m m2 are (inl same) = (done, (are.0 ∙ ap (λ (ls : List Timed). done ++ ls) (sym same.0), same.1 ∙ are.1))
    done_on lines done old new m m2 are (inr one) = (
      done ++ one.0 ∷ [],
      (
        are.0 ∙ ap (λ (ls : List Timed). done ++ ls) one.1 ∙ sym (append_assoc done (one.0 ∷ []) new),
        one.2 ∙ ap (λ (x : ℕ). x + mounts (one.0 ∷ [])) are.1 ∙ sym (mounts-push done one.0),
      ),
    )

    -- ALL MOVES OF A RUN
    pub run_goes : (lines : List Timed) (moves : List Move) (f m c : ℕ) (w last : World) (done : List Timed) → AreDone lines done w.lines m → AllByRecursion IsTimed w.lines
        → (u ≡ true → AllByRecursion TakesUnit moves) → IsTakenIn n u q a f m c w → Run tariffs tariff rules rule w moves last
        → (f2 : ℕ) × (m2 : ℕ) × (c2 : ℕ) × (more : List Timed) × (f2 ≡ f + all_in (free_in n) moves) × (c2 ≡ c + all_in (charged_in n) moves) × IsTakenIn n u q a f2 m2 c2 last
        × AreDone lines more last.lines m2 × AllByRecursion IsTimed last.lines
    run_goes lines [] f m c w last done are timed units h is = (
      f,
      m,
      c,
      done,
      omega arith,
      omega arith,
      subst (λ (x : World). IsTakenIn n u q a f m c x) (sym is) h,
      subst (λ (x : World). AreDone lines done x.lines m) (sym is) are,
      subst (λ (x : World). AllByRecursion IsTimed x.lines) (sym is) timed,
    )
    run_goes lines (move ∷ moves) f m c w last done are timed units h (mid, step, run) =
        let one = step_goes f m c w mid move (λ on. (units on).0) timed h step in
        let goes = one.6 in
        let more = done_on lines done w.lines mid.lines m one.1 are goes in
        let rest = run_goes lines moves one.0 one.1 one.2 mid last more.0 more.1 (timed_on w.lines mid.lines m one.1 goes timed) (λ on. (units on).1) one.5 run in
        let ef : one.0 ≡ f + free_in n move = one.3 in
        let ec : one.2 ≡ c + charged_in n move = one.4 in
        let rf : rest.0 ≡ one.0 + all_in (free_in n) moves = rest.4 in
        let rc : rest.2 ≡ one.2 + all_in (charged_in n) moves = rest.5 in
        (rest.0, rest.1, rest.2, rest.3, omega (arith, ef, rf), omega (arith, ec, rc), rest.6, rest.7, rest.8)

sums : (g : Move → ℕ) (moves : List Move) → sum_by g moves ≡ all_in g moves
sums g [] = refl
sums g (move ∷ moves) = sum_by-cons g move moves ∙ ap (λ (x : ℕ). g move + x) (sums g moves)

all_append : (g : Move → ℕ) (xs ys : List Move) → all_in g (xs ++ ys) ≡ all_in g xs + all_in g ys
all_append g [] ys = omega arith
all_append g (x ∷ xs) ys = let rest = all_append g xs ys in omega (arith, rest)

front_units : (front back : List Move) → AllByRecursion TakesUnit (front ++ back) → AllByRecursion TakesUnit front
front_units [] back units = tt
front_units (move ∷ front) back units = (units.0, front_units front back units.1)

back_units : (front back : List Move) → AllByRecursion TakesUnit (front ++ back) → AllByRecursion TakesUnit back
back_units [] back units = units
back_units (move ∷ front) back units = back_units front back units.1

-- the lines that were done are those in front of the lines that are left
taken_front : (done left : List Timed) → take (length done) (done ++ left) ≡ done
taken_front [] left = refl
taken_front (d ∷ done) left = ap (λ (ls : List Timed). d ∷ ls) (taken_front done left)

done_are : (lines done left : List Timed) → lines ≡ done ++ left → take (length lines - length left) lines ≡ done
done_are lines done left is =
    let long : length (done ++ left) ≡ length done + length left = length-append done left in
    let count : length (done ++ left) - length left ≡ length done = omega (arith, long) in
    ap (λ (ls : List Timed). take (length ls - length left) ls) is ∙ ap (λ (k : ℕ). take k (done ++ left)) count ∙ taken_front done left

module _ {F U : Type 0} (tariffs : Shared F (Bor Usage × Unit {0}) Charge) (tariff : F) (rules : Shared U (Bor Standing × Unit {0}) ℕ) (rule : U) where
  -- there is no job when a run begins
  pub begun : (n : ℕ) (u : Bool) (lines : List Timed) (bad : Option ℕ) (s : State) → IsTakenIn n u false 0 0 0 0 (start lines bad s)
  begun n u lines bad s = record {
    rising = (let low : 0 ≤ 1 = omega arith in low);
    free = (let low : 0 ≤ 1 + 0 = omega arith in low);
    able = λ job found can. no_job job found;
    within = λ job found. no_job job found;
    spent = λ on job found. no_job job found;
    unborn = λ above. (refl, refl);
    born = λ on. absurd (false≢true on);
    taking = λ p is. absurd (let no : ⊥ = cc in no);
  }

  -- from when a job is there on, its allowance holds
  bounded : (n : ℕ) (f m c : ℕ) (w : World) (job : JobState) → job_of w n ≡ Some job → IsTakenIn n true false 0 f m c w → IsTakenIn n true true job.allowance f m c w
  bounded n f m c w job here h = record {
    rising = h.rising;
    free = h.free;
    able = h.able;
    within = h.within;
    spent = h.spent;
    unborn = h.unborn;
    born = λ on.
        let spent : c ≤ job.used = h.spent refl job here in
        let left : job.used < job.allowance = (h.within job here).0 in
        (refl, (number_of n 0 w.jobs w.next_job job h.rising here).1, omega (arith, spent, left), λ x found. ap (λ (y : JobState). y.allowance) (one_job x job (sym found ∙ here)));
    taking = h.taking;
  }

  frees : (lines : List Timed) (bad : Option ℕ) (s : State) (moves : List Move) (last : World) → AllByRecursion IsTimed lines → Run tariffs tariff rules rule (start lines bad s) moves last → (n : ℕ)
      → sum_by (free_in n) moves ≤ 1 + mounts (lines_done lines last)
  frees lines bad s moves last timed run n =
      let end = run_goes n false false 0 tariffs tariff rules rule lines moves 0 0 0 (start lines bad s) last [] (refl, refl) timed (λ on. absurd (false≢true on)) (begun n false lines bad s) run in
      let free : end.0 ≤ 1 + end.1 = end.6.free in
      let is : end.0 ≡ 0 + all_in (free_in n) moves = end.4 in
      let sum : sum_by (free_in n) moves ≡ all_in (free_in n) moves = sums (free_in n) moves in
      let count : end.1 ≡ mounts end.3 = end.7.1 in
      let done : mounts (lines_done lines last) ≡ mounts end.3 = ap mounts (done_are lines end.3 last.lines end.7.0) in
      omega (arith, free, is, sum, count, done)

  charges : (lines : List Timed) (bad : Option ℕ) (s : State) (front back : List Move) (w last : World) → AllByRecursion IsTimed lines → AllByRecursion TakesUnit (front ++ back)
      → Run tariffs tariff rules rule (start lines bad s) front w → Run tariffs tariff rules rule w back last → (n : ℕ) (job : JobState) → job_of w n ≡ Some job
      → sum_by (charged_in n) (front ++ back) ≤ job.allowance
  charges lines bad s front back w last timed units first later n job here =
      let mid = run_goes n true false 0 tariffs tariff rules rule lines front 0 0 0 (start lines bad s) w [] (refl, refl) timed (λ on. front_units front back units) (begun n true lines bad s) first in
      let end = run_goes n true true job.allowance tariffs tariff rules rule lines back mid.0 mid.1 mid.2 w last mid.3 mid.7 mid.8 (λ on. back_units front back units) (bounded n mid.0 mid.1 mid.2 w job here mid.6) later in
      let born = end.6.born refl in
      let most : end.2 ≤ job.allowance = born.2 in
      let one : mid.2 ≡ 0 + all_in (charged_in n) front = mid.5 in
      let two : end.2 ≡ mid.2 + all_in (charged_in n) back = end.5 in
      let both : all_in (charged_in n) (front ++ back) ≡ all_in (charged_in n) front + all_in (charged_in n) back = all_append (charged_in n) front back in
      let sum : sum_by (charged_in n) (front ++ back) ≡ all_in (charged_in n) (front ++ back) = sums (charged_in n) (front ++ back) in
      omega (arith, most, one, two, both, sum)

  pub runs_end : AnswersPlainly → RunsEnd tariffs tariff rules rule
  runs_end plainly lines bad s moves last fair timed short run n =
      let units = units_taken tariffs tariff rules rule plainly fair lines bad s moves last short run in (
        frees lines bad s moves last (recursion_from_All IsTimed lines timed) run n,
        λ front back w job is first later here. subst (λ (ms : List Move). sum_by (charged_in n) ms ≤ job.allowance) (sym is)
            (charges lines bad s front back w last (recursion_from_All IsTimed lines timed) (subst (λ (ms : List Move). AllByRecursion TakesUnit ms) is units) first later n job here),
      )
