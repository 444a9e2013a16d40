-- WHAT A TERMINAL'S JOB READS: at each event its document has exactly the lines that were typed for it.
-- serves: terminals_read_what_is_typed
use Rattle.std.proofs.Common.{not, ◌≡◌, ◌⊎◌, ◌<◌, ◌≤◌, ◌+◌, ◌==◌, ◌&&◌, ◌++◌, ℕ, Bool, true, false, List, [], ◌∷◌, filter, length, Option, Some, None, IfSome, is_some, slice_get, Result, Ok, Err, MatchBool, codes, if◌then◌else◌, append_assoc, append-nil, refl, sym, ◌∙◌, ap, subst, inl, inr, eqb-true, ne_eqb, arith}
use Rattle.std.proofs.lemmas.Bool.{false≢true}
use Rattle.std.proofs.lemmas.Option.{some_pair_parts}
use Rattle.std.specs.Fmt.{decimal}
use Rattle.std.specs.Fn.{Shared}
use denote.Ref.{Bor}
use Rattle.g_turn.proofs.DocumentLemmas.{LeavesIt, SameOrNone, begins_leaves}
use Rattle.g_turn.specs.Bounds.{AlwaysGives, MayAnswer}
use Rattle.g_turn.specs.State.{Broken, Done, Full, Pending, Stop, Waits, Work}
use Rattle.g_rules.specs.declared.tariff.Charge.{Charge}
use Rattle.g_rules.specs.declared.tariff.Usage.{Usage}
use Rattle.g_job.specs.Beginning.{begin, job_begun, room_of}
use Rattle.g_job.specs.TurnEnd.{behind_turn, charged, end_by, is_money_up, is_time_up, up_line}
use Rattle.g_job.specs.State.{JobState}
use Rattle.g_job.specs.Terminal.{typed_to, with_stack}
use Rattle.g_job.specs.Turns.{turn_work}
use Rattle.g_rules.specs.declared.turn.Turn.{Turn}
use Rattle.g_rules.specs.declared.turn.Turn.TheVariants as turns
use Rattle.g_macro.specs.Holding.{document_level, finished, line_added, with_document}
use Rattle.g_macro.specs.Levels.{Level}
use Rattle.g_monitor.specs.Parts.{full_text}
use Rattle.g_plain.specs.Programs.{Answer, Asks, Call, Gives}
use Rattle.g_plain.specs.declared.calls.StoreCall.{StoreCall}
use Rattle.g_plain.specs.declared.faults.StoreFault.{StoreFault}
use Rattle.g_plain.specs.declared.faults.StoreFault.TheVariants.{NotStarted, Running, Stopped}
use Rattle.g_rules.specs.declared.rule.Standing.{Standing}
use Rattle.g_script.specs.declared.operator.Operator.{Operator}
use Rattle.g_script.specs.declared.operator.Operator.TheVariants as line
use Rattle.g_script.specs.declared.operator.Timed.{Timed}
use Rattle.g_store_model.specs.CallStep.{Outcome, Plain}
use Rattle.g_store_model.specs.DumpSteps.{Completed, Going, Stepped as DumpStepped}
use Rattle.g_store_model.specs.Laws.{AnswersPlainly}
use Rattle.g_store_model.specs.Rising.{FormatStep, RestoreStep, StartStep}
use Rattle.g_store_model.specs.State.{OpenDump, State}
use Rattle.g_run_model.specs.Events.{IsMigration, IsOpening, IsProcessing, IsTold}
use Rattle.g_run_model.specs.Lines.{LineGives, shut_with, changed_at, job_line, job_refusal, line_refused, logged_in, login_refusal, now_stands, open_at, sits_at, taken_in, tells, terminal_job, up_with}
use Rattle.g_run_model.specs.Moves.{Answered, Begin, Dumped, Move, Over, Run, Step, TakeLine, Ticked, TurnOver, dump_told, turn_told}
use Rattle.g_run_model.specs.Terminals.{TerminalsRead, is_number, typed, typed_by, typed_line, typed_of}
use Rattle.g_run_model.specs.Texts.{dump_text, processed_text, started_text, tape_text}
use Rattle.g_run_model.specs.World.{World, can_step, shows, start, with_job, without_job}
use Rattle.g_run_model.proofs.CrewLemmas.{AreRising, found_by, found_other, found_push, found_same, itself, left_none, left_other, listed, no_job, number_of, numbered, one_job}
use Rattle.g_run_model.proofs.PricedLemmas.{Both, fit_gone, nobody, step_both}
use Rattle.g_run_model.proofs.ShortLemmas.{may_answer}
use Rattle.g_run_model.proofs.TakenLemmas.{crew_after}

abbrev At : Type 0
At = ℕ → List (List ℕ)

-- its document has these lines, or no level is left, and what it continues with has a level
abbrev HasRead : List (List ℕ) → JobState → Type 0
HasRead lines j = SameOrNone lines j.desk.levels.levels × (is_some j.pending ≡ true → 0 < length j.desk.levels.levels)

-- THE JOBS at terminals have what was typed for the number of each, and what is left of a turn's program leaves it
record Reads (so : At) (jobs : List JobState) (next : ℕ) (turn : Option (ℕ × Asks Work)) : Type 0 where
  pub rest : (n t : ℕ) (job : JobState) → numbered n jobs ≡ Some job → job.terminal ≡ Some t → HasRead (so n) job
  pub going : (n : ℕ) (p : Asks Work) → turn ≡ Some (n, p) → (t : ℕ) (job : JobState) → numbered n jobs ≡ Some job → job.terminal ≡ Some t → AlwaysGives (LeavesIt job.desk.levels.held (so n)) p
  pub later : (n : ℕ) → next ≤ n → so n ≡ []

-- the same lines
reads_as : (so other : At) → ((n : ℕ) → other n ≡ so n) → (jobs : List JobState) (next : ℕ) (turn : Option (ℕ × Asks Work)) → Reads so jobs next turn → Reads other jobs next turn
reads_as so other same jobs next turn h = record {
  rest = λ n t job found at_t. subst (λ (l : List (List ℕ)). HasRead l job) (sym (same n)) (h.rest n t job found at_t);
  going = λ n p is t job found at_t. subst (λ (l : List (List ℕ)). AlwaysGives (LeavesIt job.desk.levels.held l) p) (sym (same n)) (h.going n p is t job found at_t);
  later = λ n above. same n ∙ h.later n above;
}

nothing_typed : (so : At) (jobs : List JobState) (next : ℕ) (turn : Option (ℕ × Asks Work)) → Reads so jobs next turn → Reads (λ n. so n ++ []) jobs next turn
nothing_typed so jobs next turn h = reads_as so (λ n. so n ++ []) (λ n. append-nil (so n)) jobs next turn h

-- the jobs are gone
reads_gone : (so : At) (jobs : List JobState) (next : ℕ) (old turn : Option (ℕ × Asks Work)) → Reads so jobs next old → Reads so [] next turn
reads_gone so jobs next old turn h = record {
  rest = λ n t job found at_t. no_job job found;
  going = λ n p is t job found at_t. no_job job found;
  later = h.later;
}

no_terminal : {P : Type 0} (t : ℕ) (o : Option ℕ) → o ≡ None → o ≡ Some t → P
no_terminal t o none some = absurd (let e : (let one : Option ℕ = Some t in one ≡ None) = sym some ∙ none in let no : ⊥ = cc in no)

-- a job is added: it is at no terminal, or its document is empty
reads_push : (so : At) (jobs : List JobState) (next : ℕ) (turn : Option (ℕ × Asks Work)) (job : JobState) → turn ≡ None → job.number ≡ next
    → ((t : ℕ) → job.terminal ≡ Some t → HasRead [] job) → Reads so jobs next turn → Reads so (jobs ++ job ∷ []) (next + 1) turn
reads_push so jobs next turn job idle is new h = record {
  rest = λ n t x found at_t. by n t x (found_push n jobs job x found) at_t;
  going = λ n p asks t x found at_t. nobody turn (n, p) idle asks;
  later = λ n above. h.later n (omega (arith, above));
}
  where
    by : (n t : ℕ) (x : JobState) → (numbered n jobs ≡ Some x) ⊎ ((job.number ≡ n) × (x ≡ job)) → x.terminal ≡ Some t → HasRead (so n) x
    by n t x (inl old) at_t = h.rest n t x old at_t
    by n t x (inr (same, it)) at_t =
        let e : next ≡ n = sym is ∙ same in
        let none : so n ≡ [] = h.later n (omega (arith, e)) in
        subst (λ (y : JobState). HasRead (so n) y) (sym it) (subst (λ (l : List (List ℕ)). HasRead l job) (sym none) (new t (ap (λ (y : JobState). y.terminal) (sym it) ∙ at_t)))

-- a turn begins
begin_leaves : (lines : List (List ℕ)) (j : JobState) → HasRead lines j → AlwaysGives (LeavesIt j.desk.levels.held lines) (turn_work j)
begin_leaves lines j h = begins_leaves j.desk.levels.held lines (room_of j) j.user j.pending (begin j) refl h.1 (refl, h.0)

reads_begin : (so : At) (jobs : List JobState) (next : ℕ) (s : State) (t : Option (ℕ × Asks Work)) (place : ℕ) (job : JobState) → AreRising 0 jobs next → slice_get (filter (can_step s) jobs) place ≡ Some job
    → Reads so jobs next t → Reads so jobs next (Some (job.number, turn_work job))
reads_begin so jobs next s t place job rising there h = record {
  rest = h.rest;
  going = λ n p is at x found at_x.
      let parts = some_pair_parts job.number n (turn_work job) p is in
      let mine = (listed (can_step s) 0 jobs next place job rising there).1 in
      let same : job ≡ x = one_job job x (sym mine ∙ ap (λ (y : ℕ). numbered y jobs) parts.0 ∙ found) in
      subst (λ (y : Asks Work). AlwaysGives (LeavesIt x.desk.levels.held (so n)) y) (ap turn_work (sym same) ∙ parts.1) (begin_leaves (so n) x (h.rest n at x found at_x));
  later = h.later;
}

-- a call of it is answered
reads_answer : (so : At) (jobs : List JobState) (next number : ℕ) (asked : StoreCall) (more : Answer → Asks Work) (answer : Answer) → MayAnswer asked answer
    → Reads so jobs next (Some (number, Call asked more)) → Reads so jobs next (Some (number, more answer))
reads_answer so jobs next number asked more answer may h = record {
  rest = h.rest;
  going = λ n p is t x found at_t.
      let parts = some_pair_parts number n (more answer) p is in
      subst (λ (y : Asks Work). AlwaysGives (LeavesIt x.desk.levels.held (so n)) y) parts.1
      (subst (λ (y : ℕ). AlwaysGives (LeavesIt x.desk.levels.held (so y)) (more answer)) parts.0
      (h.going number (Call asked more) refl t x (subst (λ (y : ℕ). numbered y jobs ≡ Some x) (sym parts.0) found) at_t answer may));
  later = h.later;
}

-- the end of a turn leaves the document as the turn left it
abbrev EndsWell : List (List ℕ) → JobState → JobState → Type 0
EndsWell lines j after = (after.terminal ≡ j.terminal) × (after.number ≡ j.number) × HasRead lines after

no_pending : (levels : List Level) → is_some (let none : Option Pending = None in none) ≡ true → 0 < length levels
no_pending levels some = absurd (false≢true some)

end_reads : (lines : List (List ℕ)) (j : JobState) (w : Work) → LeavesIt j.desk.levels.held lines w → (stop : Option Stop) (charge : Option Charge) → IfSome (end_by stop j w charge) (λ e. EndsWell lines j e.1)
end_reads lines j w g (Some (Waits serial)) None = (refl, refl, (g.0.1, g.1))
end_reads lines j w g (Some (Waits serial)) (Some charge) = tt
end_reads lines j w g (Some Broken) None = (refl, refl, (g.0.1, no_pending w.desk.levels.levels))
end_reads lines j w g (Some Broken) (Some charge) = tt
end_reads lines j w g (Some Full) None = tt
end_reads lines j w g (Some Full) (Some charge) = (refl, refl, (g.0.1, no_pending w.desk.levels.levels))
end_reads lines j w g (Some Done) None = tt
end_reads lines j w g (Some Done) (Some charge) = (refl, refl, (g.0.1, no_pending w.desk.levels.levels))
end_reads lines j w g None None = tt
end_reads lines j w g None (Some charge) = by (is_time_up j charge) (is_money_up j charge)
  where
    by : (time money : Bool) → EndsWell lines j (behind_turn (charged j w charge) (up_line time money (charged j w charge)))
    by true money = (refl, refl, (g.0.1, no_pending w.desk.levels.levels))
    by false true = (refl, refl, (g.0.1, no_pending w.desk.levels.levels))
    by false false = (refl, refl, (g.0.1, no_pending w.desk.levels.levels))

-- for any result of a turn, its end preserves the job's terminal and number
seat_kept : (j : JobState) (w : Work) (stop : Option Stop) (charge : Option Charge) → IfSome (end_by stop j w charge) (λ e. (e.1.terminal ≡ j.terminal) × (e.1.number ≡ j.number))
seat_kept j w (Some (Waits serial)) None = (refl, refl)
seat_kept j w (Some (Waits serial)) (Some charge) = tt
seat_kept j w (Some Broken) None = (refl, refl)
seat_kept j w (Some Broken) (Some charge) = tt
seat_kept j w (Some Full) None = tt
seat_kept j w (Some Full) (Some charge) = (refl, refl)
seat_kept j w (Some Done) None = tt
seat_kept j w (Some Done) (Some charge) = (refl, refl)
seat_kept j w None None = tt
seat_kept j w None (Some charge) = by (is_time_up j charge) (is_money_up j charge)
  where
    by : (time money : Bool) → (let after : JobState = behind_turn (charged j w charge) (up_line time money (charged j w charge)) in (after.terminal ≡ j.terminal) × (after.number ≡ j.number))
    by true money = (refl, refl)
    by false true = (refl, refl)
    by false false = (refl, refl)

-- another job in the place of the one of its number, which has its own lines
reads_with : (so other : At) (jobs : List JobState) (next : ℕ) (turn : Option (ℕ × Asks Work)) (after : JobState) → ((t : ℕ) → after.terminal ≡ Some t → HasRead (other after.number) after)
    → ((n : ℕ) → (after.number == n) ≡ false → other n ≡ so n) → after.number < next → Reads so jobs next turn → Reads other (with_job after jobs) next None
reads_with so other jobs next turn after its others below h = record {
  rest = λ n t x found at_t. by n t x (after.number == n) refl found at_t;
  going = λ n p is t x found at_t. nobody None (n, p) refl is;
  later = λ n above. others n (ne_eqb after.number n (λ same. let no : ⊥ = omega (arith, same, above, below) in no)) ∙ h.later n above;
}
  where
    by : (n t : ℕ) (x : JobState) (b : Bool) → (after.number == n) ≡ b → numbered n (with_job after jobs) ≡ Some x → x.terminal ≡ Some t → HasRead (other n) x
    by n t x true e found at_t =
        let same : after.number ≡ n = eqb-true after.number n e in
        let it : x ≡ after = found_same after jobs x (subst (λ (y : ℕ). numbered y (with_job after jobs) ≡ Some x) (sym same) found) in
        subst (λ (y : JobState). HasRead (other n) y) (sym it) (subst (λ (y : ℕ). HasRead (other y) after) same (its t (ap (λ (y : JobState). y.terminal) (sym it) ∙ at_t)))
    by n t x false e found at_t =
        subst (λ (l : List (List ℕ)). HasRead l x) (sym (others n e)) (h.rest n t x (sym (found_other after n e jobs) ∙ found) at_t)

reads_without : (so : At) (jobs : List JobState) (next : ℕ) (turn : Option (ℕ × Asks Work)) (gone : ℕ) → Reads so jobs next turn → Reads so (without_job gone jobs) next None
reads_without so jobs next turn gone h = record {
  rest = λ n t x found at_t. by n t x (gone == n) refl found at_t;
  going = λ n p is t x found at_t. nobody None (n, p) refl is;
  later = h.later;
}
  where
    by : (n t : ℕ) (x : JobState) (b : Bool) → (gone == n) ≡ b → numbered n (without_job gone jobs) ≡ Some x → x.terminal ≡ Some t → HasRead (so n) x
    by n t x true e found at_t = no_job x (sym (left_none n jobs) ∙ subst (λ (y : ℕ). numbered n (without_job y jobs) ≡ Some x) (eqb-true gone n e) found)
    by n t x false e found at_t = h.rest n t x (sym (left_other gone n e jobs) ∙ found) at_t

reads_over : (so : At) (jobs : List JobState) (next : ℕ) (turn : Option (ℕ × Asks Work)) (t : Turn) (after : JobState) → ((at : ℕ) → after.terminal ≡ Some at → HasRead (so after.number) after) → after.number < next
    → Reads so jobs next turn → Reads so (crew_after t after jobs) next None
reads_over so jobs next turn turns.Broken after its below h = reads_gone so jobs next turn None h
reads_over so jobs next turn (turns.Wants serial) after its below h = reads_with so so jobs next turn after its (λ n other. refl) below h
reads_over so jobs next turn (turns.Ran units money) after its below h = reads_with so so jobs next turn after its (λ n other. refl) below h
reads_over so jobs next turn (turns.Ended units money) after its below h = reads_without so jobs next turn after.number h

-- A LINE IS TYPED
typed_lines : (text : List ℕ) (levels : List Level) → 0 < length levels → (document_level (with_document (line_added text) levels)).lines ≡ (document_level levels).lines ++ text ∷ []
typed_lines text [] some = absurd (let no : ⊥ = omega (arith, some) in no)
typed_lines text (level ∷ []) some = refl
typed_lines text (level ∷ one ∷ []) some = refl
typed_lines text (level ∷ one ∷ other ∷ below) some = typed_lines text (one ∷ other ∷ below) (omega arith)

typed_some : (text : List ℕ) (levels : List Level) → 0 < length levels → 0 < length (with_document (line_added text) levels)
typed_some text [] some = some
typed_some text (level ∷ []) some = omega arith
typed_some text (level ∷ one ∷ below) some = omega arith

typed_read : (text : List ℕ) (lines : List (List ℕ)) (levels : List Level) → SameOrNone lines levels → SameOrNone (lines ++ text ∷ []) (with_document (line_added text) levels)
typed_read text lines [] h = inl refl
typed_read text lines (level ∷ below) (inl none) = absurd (let no : ⊥ = cc in no)
typed_read text lines (level ∷ below) (inr same) = inr (typed_lines text (level ∷ below) (omega arith) ∙ ap (λ (l : List (List ℕ)). l ++ text ∷ []) same)

-- OF A WORLD
abbrev Has : At → World → Type 0
Has so w = Reads so w.jobs w.next_job w.turn

has_is : (so : At) (new v : World) → new ≡ v → Has so v → Has so new
has_is so new v is h = subst (λ (x : World). Has so x) (sym is) h

module _ (so : At) where
  up_has : {R : Type 0} (said : R → List ℕ) (r : Result R StoreFault) (s : State) (w : World) → Has so w → Has so (tells (λ x t v. up_with (said x) t v) r s w)
  up_has said (Ok x) s w h = h
  up_has said (Err Stopped) s w h = reads_gone so w.jobs w.next_job w.turn w.turn h
  up_has said (Err fault) s w h = h

  stands_has : {R : Type 0} (said : R → List ℕ) (r : Result R StoreFault) (s : State) (w : World) → Has so w → Has so (tells (λ x t v. now_stands (said x) t v) r s w)
  stands_has said (Ok x) s w h = h
  stands_has said (Err Stopped) s w h = reads_gone so w.jobs w.next_job w.turn w.turn h
  stands_has said (Err fault) s w h = h

  rises_has : {R : Type 0} (Does : State → Outcome → Result R StoreFault → State → Type 0) (said : R → List ℕ) (o : Outcome) (w new : World) (b : Bool) → Has so w
      → MatchBool (not b) ((r : Result R StoreFault) × (s : State) × (Does w.store o r s × IsTold o r) × (new ≡ tells (λ x t v. up_with (said x) t v) r s w)) ((o ≡ Plain) × (new ≡ line_refused Running w)) → Has so new
  rises_has Does said o w new true h (plain, is) = has_is so new (line_refused Running w) is h
  rises_has Does said o w new false h (r, s, (does, told), is) = has_is so new _ is (up_has said r s w h)

  needs_has : {R : Type 0} (Does : Result R StoreFault → State → Type 0) (said : R → List ℕ) (o : Outcome) (w new : World) (b : Bool) → Has so w
      → MatchBool b ((r : Result R StoreFault) × (s : State) × Does r s × (new ≡ tells (λ x t v. now_stands (said x) t v) r s w)) ((o ≡ Plain) × (new ≡ line_refused NotStarted w)) → Has so new
  needs_has Does said o w new true h (r, s, does, is) = has_is so new _ is (stands_has said r s w h)
  needs_has Does said o w new false h (plain, is) = has_is so new (line_refused NotStarted w) is h

  shuts_has : (d : Option OpenDump) (w new : World) → Has so w → new ≡ shut_with d w → Has so new
  shuts_has (Some dump) w new h is = has_is so new _ is h
  shuts_has None w new h is = has_is so new _ is (reads_gone so w.jobs w.next_job w.turn w.turn h)

  shut_has : (w new : World) (b : Bool) → Has so w → new ≡ (if b then shut_with w.store.open_dump w else line_refused NotStarted w) → Has so new
  shut_has w new true h shuts = shuts_has w.store.open_dump w new h shuts
  shut_has w new false h is = has_is so new (line_refused NotStarted w) is h

  job_has : (name user : List ℕ) (time money : ℕ) (lines : List (List ℕ)) (w : World) (refusal : Option (List ℕ)) → w.turn ≡ None → Has so w → Has so (job_line refusal (taken_in name user time money lines w) w)
  job_has name user time money lines w None idle h =
      reads_push so w.jobs w.next_job w.turn (job_begun w.next_job name user time money lines) idle refl (λ t at_t. no_terminal t None refl at_t) h
  job_has name user time money lines w (Some text) idle h = h

  job_by_has : (name user : List ℕ) (time money : ℕ) (lines : List (List ℕ)) (w : World) (b : Bool) → w.turn ≡ None → Has so w
      → Has so (if b then job_line (job_refusal w user time money) (taken_in name user time money lines w) w else line_refused NotStarted w)
  job_by_has name user time money lines w true idle h = job_has name user time money lines w (job_refusal w user time money) idle h
  job_by_has name user time money lines w false idle h = h

  login_has : (t : ℕ) (user : List ℕ) (time : ℕ) (w : World) (refusal : Option (List ℕ)) → w.turn ≡ None → Has so w → Has so (job_line refusal (logged_in t user time w) w)
  login_has t user time w None idle h =
      reads_push so w.jobs w.next_job w.turn (terminal_job w.next_job t user time) idle refl (λ x at_x. (inr refl, λ some. absurd (false≢true some))) h
  login_has t user time w (Some text) idle h = h

  login_by_has : (t : ℕ) (user : List ℕ) (time : ℕ) (w : World) (b : Bool) → w.turn ≡ None → Has so w
      → Has so (if b then job_line (login_refusal w t user time) (logged_in t user time w) w else line_refused NotStarted w)
  login_by_has t user time w true idle h = login_has t user time w (login_refusal w t user time) idle h
  login_by_has t user time w false idle h = h

  abbrev is_open : ℕ → JobState → Bool
  is_open t x = sits_at t x && x.desk.levels.held

  out_changed : (t : ℕ) (w : World) (j : Option JobState) → open_at t w.jobs ≡ j → w.turn ≡ None → AreRising 0 w.jobs w.next_job → Has so w → Has so (changed_at t (with_stack finished) j w)
  out_changed t w None is idle rising h = h
  out_changed t w (Some j) is idle rising h =
      let found = found_by (is_open t) 0 w.jobs w.next_job j rising is in
      let below = number_of j.number 0 w.jobs w.next_job j rising found.1 in
      subst (λ (x : Option (ℕ × Asks Work)). Reads so (with_job (with_stack finished j) w.jobs) w.next_job x) (sym idle)
      (reads_with so so w.jobs w.next_job w.turn (with_stack finished j) (λ x at_x. h.rest j.number x j found.1 at_x) (λ n other. refl) below.1 h)

  out_has : (t : ℕ) (w : World) (b : Bool) → w.turn ≡ None → AreRising 0 w.jobs w.next_job → Has so w → Has so (if b then changed_at t (with_stack finished) (open_at t w.jobs) w else line_refused NotStarted w)
  out_has t w true idle rising h = out_changed t w (open_at t w.jobs) refl idle rising h
  out_has t w false idle rising h = h

  -- what a TYPE types
  abbrev and_typed : Bool → Option JobState → List ℕ → At
  and_typed b o text n = so n ++ (if b && is_number n o then text ∷ [] else [])

  type_changed : (t : ℕ) (text : List ℕ) (w : World) (j : Option JobState) → open_at t w.jobs ≡ j → w.turn ≡ None → AreRising 0 w.jobs w.next_job → Has so w → Has (and_typed true j text) (changed_at t (typed_to text) j w)
  type_changed t text w None is idle rising h = nothing_typed so w.jobs w.next_job w.turn h
  type_changed t text w (Some j) is idle rising h =
      let found = found_by (is_open t) 0 w.jobs w.next_job j rising is in
      let below = number_of j.number 0 w.jobs w.next_job j rising found.1 in
      subst (λ (x : Option (ℕ × Asks Work)). Reads (and_typed true (Some j) text) (with_job (typed_to text j) w.jobs) w.next_job x) (sym idle)
      (reads_with so (and_typed true (Some j) text) w.jobs w.next_job w.turn (typed_to text j) (λ x at_x. mine x (h.rest j.number x j found.1 at_x)) other below.1 h)
    where
      mine : (x : ℕ) → HasRead (so j.number) j → HasRead (and_typed true (Some j) text j.number) (typed_to text j)
      mine x old = subst (λ (b : Bool). HasRead (so j.number ++ (if b then text ∷ [] else [])) (typed_to text j)) (sym (itself j.number))
          (typed_read text (so j.number) j.desk.levels.levels old.0, λ some. typed_some text j.desk.levels.levels (old.1 some))

      other : (n : ℕ) → (j.number == n) ≡ false → and_typed true (Some j) text n ≡ so n
      other n e = ap (λ (b : Bool). so n ++ (if b then text ∷ [] else [])) e ∙ append-nil (so n)

  type_has : (t : ℕ) (text : List ℕ) (w : World) (b : Bool) → w.turn ≡ None → AreRising 0 w.jobs w.next_job → Has so w
      → Has (and_typed b (open_at t w.jobs) text) (if b then changed_at t (typed_to text) (open_at t w.jobs) w else line_refused NotStarted w)
  type_has t text w true idle rising h = type_changed t text w (open_at t w.jobs) refl idle rising h
  type_has t text w false idle rising h = nothing_typed so w.jobs w.next_job w.turn h

  none : (w : World) → Has so w → Has (λ n. so n ++ []) w
  none w h = nothing_typed so w.jobs w.next_job w.turn h

  -- A LINE
  line_has : (o : Outcome) (what : Operator) (w new : World) → w.turn ≡ None → AreRising 0 w.jobs w.next_job → Has so w → LineGives o what w new → Has (λ n. so n ++ typed_line w n what) new
  line_has o line.Format w new idle rising h gives = none new (rises_has FormatStep (λ r. codes "FORMATTED") o w new w.store.up h gives)
  line_has o line.Start w new idle rising h gives = none new (rises_has StartStep started_text o w new w.store.up h gives)
  line_has o line.Restore w new idle rising h gives = none new (rises_has RestoreStep (λ n. codes "RESTORED FROM DUMP " ++ decimal n) o w new w.store.up h gives)
  line_has o line.Shut w new idle rising h (plain, gives) = none new (shut_has w new w.store.up h gives)
  line_has o (line.Job name user time money lines) w new idle rising h (plain, is) = none new (has_is so new _ is (job_by_has name user time money lines w w.store.up idle h))
  line_has o (line.Mount serial) w new idle rising h (r, s, does, is) = none new (has_is so new _ is (stands_has (λ _. tape_text serial (codes "MOUNTED")) r s w h))
  line_has o (line.Unmount serial) w new idle rising h (r, s, does, is) = none new (has_is so new _ is (stands_has (λ _. tape_text serial (codes "UNMOUNTED")) r s w h))
  line_has o (line.Dump serial) w new idle rising h gives = none new (needs_has (λ r s. IsOpening w.store serial o r s) (λ n. dump_text n (codes "OPENED")) o w new w.store.up h gives)
  line_has o (line.Process serial) w new idle rising h gives = none new (needs_has (λ r s. IsProcessing w.store serial o r s) (processed_text serial) o w new w.store.up h gives)
  line_has o (line.Migrate path) w new idle rising h gives = none new (needs_has (λ r s. IsMigration w.store path o r s) (λ full. codes "MIGRATED " ++ full_text full) o w new w.store.up h gives)
  line_has o (line.StopDisc k) w new idle rising h (plain, is) = none new (has_is so new _ is h)
  line_has o (line.StopTape k) w new idle rising h (plain, is) = none new (has_is so new _ is h)
  line_has o (line.Login t user time) w new idle rising h (plain, is) = none new (has_is so new _ is (login_by_has t user time w w.store.up idle h))
  line_has o (line.Typed t text) w new idle rising h (plain, is) = has_is (λ n. so n ++ typed_line w n (line.Typed t text)) new _ is (type_has t text w w.store.up idle rising h)
  line_has o (line.Logout t) w new idle rising h (plain, is) = none new (has_is so new _ is (out_has t w w.store.up idle rising h))

  dump_has : (n : ℕ) (r : Result DumpStepped StoreFault) (s : State) (w : World) → Has so w → Has so (dump_told n r s w)
  dump_has n (Ok Going) s w h = h
  dump_has n (Ok (Completed m)) s w h = h
  dump_has n (Err Stopped) s w h = reads_gone so w.jobs w.next_job w.turn w.turn h
  dump_has n (Err fault) s w h = h

  over_has : (after : JobState) (t : Turn) (w : World) → Reads so (crew_after t after w.jobs) w.next_job None → Reads so (turn_told after t w).jobs (turn_told after t w).next_job None
  over_has after turns.Broken w h = h
  over_has after (turns.Wants serial) w h = h
  over_has after (turns.Ran units money) w h = h
  over_has after (turns.Ended units money) w h = h

module _ {F U : Type 0} (tariffs : Shared F (Bor Usage × Unit {0}) Charge) (tariff : F) (rules : Shared U (Bor Standing × Unit {0}) ℕ) (rule : U) (plainly : AnswersPlainly) where
  -- A MOVE
  step_has : (so : At) (w new : World) (move : Move) → Both w → Has so w → Step tariffs tariff rules rule w move new → Has (λ n. so n ++ typed_by w move n) new
  step_has so w new (TakeLine tape o) both h (next, rest, lines, between, idle, due, is_tape, gives) =
      subst (λ (ls : List Timed). Has (λ n. so n ++ typed_of w n ls) new) (sym lines) (line_has so o next.what (record w { lines = rest }) new idle both.0.rising h gives)
  step_has so w new (Dumped o) both h (between, idle, undue, dumping, (r, s, (k, d, holds, opened, step, told), is)) = none so new (has_is so new _ is (dump_has so _ r s w h))
  step_has so w new (Begin number) both h (idle, undue, ready, (place, job, chosen, there, named, is)) =
      none so new (has_is so new _ is (reads_begin so w.jobs w.next_job w.store w.turn place job both.0.rising there h))
  step_has so w new (Answered o) both h (number, call, more, job, answer, s, asks, here, (k, holds, step, told), real, is) =
      let now : Reads so w.jobs w.next_job (Some (number, Call call more)) = subst (λ (t : Option (ℕ × Asks Work)). Reads so w.jobs w.next_job t) asks h in
      none so new (has_is so new _ is (reads_answer so w.jobs w.next_job number call more answer (may_answer plainly w.store k job.user call o answer s holds both.1 step real) now))
  step_has so w new (TurnOver number charge) both h (work, job, turn, after, asks, here, priced, ends, is) =
      none so new (has_is so new _ is (over_has so after turn (shows job after w) (over_step)))
    where
      named : (job.number ≡ number) × (number < w.next_job)
      named = number_of number 0 w.jobs w.next_job job both.0.rising here

      -- what the turn left, of a job at a terminal
      left : (t : ℕ) → job.terminal ≡ Some t → EndsWell (so number) job after
      left t at_t = subst (λ (e : Option (Turn × JobState)). IfSome e (λ x. EndsWell (so number) job x.1)) ends
          (end_reads (so number) job work (h.going number (Gives work) asks t job here at_t) work.stop charge)

      over_step : Reads so (crew_after turn after w.jobs) w.next_job None
      over_step = reads_over so w.jobs w.next_job w.turn turn after its below h
        where
          same : (after.terminal ≡ job.terminal) × (after.number ≡ job.number)
          same = subst (λ (e : Option (Turn × JobState)). IfSome e (λ x. (x.1.terminal ≡ job.terminal) × (x.1.number ≡ job.number))) ends (seat_kept job work work.stop charge)

          below : after.number < w.next_job
          below = subst (λ (n : ℕ). n < w.next_job) (sym (same.1 ∙ named.0)) named.1

          its : (t : ℕ) → after.terminal ≡ Some t → HasRead (so after.number) after
          its t at_t = subst (λ (n : ℕ). HasRead (so n) after) (sym (same.1 ∙ named.0)) (left t (sym same.0 ∙ at_t)).2
  step_has so w new Ticked both h (idle, done, is) = none so new (has_is so new _ is h)
  step_has so w new Over both h (between, idle, lines, nothing, going, is) = none so new (has_is so new _ is (reads_gone so w.jobs w.next_job w.turn w.turn h))

  -- A RUN
  run_has : (moves : List Move) (so : At) (w last : World) → Both w → Has so w → (run : Run tariffs tariff rules rule w moves last) → Has (λ n. so n ++ typed tariffs tariff rules rule n w moves last run) last
  run_has [] so w last both h run = has_is (λ n. so n ++ []) last w run (none so w h)
  run_has (move ∷ moves) so w last both h (mid, step, run) =
      reads_as (λ n. (so n ++ typed_by w move n) ++ typed tariffs tariff rules rule n mid moves last run) (λ n. so n ++ (typed_by w move n ++ typed tariffs tariff rules rule n mid moves last run))
      (λ n. sym (append_assoc (so n) (typed_by w move n) (typed tariffs tariff rules rule n mid moves last run))) last.jobs last.next_job last.turn
      (run_has moves (λ n. so n ++ typed_by w move n) mid last (step_both tariffs tariff rules rule plainly w mid move both step) (step_has so w mid move both h step) run)

  pub terminals_read : TerminalsRead tariffs tariff rules rule
  terminals_read lines bad s moves last short run number t job here at_t =
      ((run_has moves (λ n. []) (start lines bad s) last (fit_gone 1 None refl, short) begun run).rest number t job here at_t).0
    where
      begun : Has (λ n. []) (start lines bad s)
      begun = record {
        rest = λ n x j found at_x. no_job j found;
        going = λ n p is x j found at_x. no_job j found;
        later = λ n above. refl;
      }
