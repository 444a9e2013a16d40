-- THE WORLD prints only lines that a run may print, if no line of the script, no job and no name has a byte 10; each move preserves that.
-- serves: LawLemmas, ScriptLemmas, SessionTextLemmas
use Rattle.std.proofs.Common.{◌≡◌, ◌==◌, ◌&&◌, ◌++◌, ◌+◌, ◌/◌, ◌%◌, ℕ, zero, suc, Bool, true, false, cond, not, nat_lt, List, [], ◌∷◌, filter, drop, length, replicate, slice_get, codes, Option, Some, None, IfSome, unwrap_or, Result, Ok, Err, MatchBool, if◌then◌else◌, refl, sym, subst, arith}
use Rattle.std.specs.Prelude.{find}
use Rattle.std.specs.Fmt.{decimal, digit_glyph, digits, digits_onto}
use Rattle.std.specs.Fn.{Shared}
use Rattle.std.specs.List.{AllByRecursion, flat_map}
use Rattle.std.proofs.lemmas.Bool.{and_from, and_parts, false≢true, ltb-true}
use denote.Ref.{Bor}
use Rattle.g_rules.specs.declared.tariff.Charge.{Charge}
use Rattle.g_rules.specs.declared.tariff.Usage.{Usage}
use Rattle.g_rules.specs.declared.rule.Standing.{Standing}
use Rattle.g_turn.specs.State.{Broken, Done, Full, Stop, Waits, Work}
use Rattle.g_job.specs.Beginning.{begin, job_begun, room_of}
use Rattle.g_job.specs.State.{JobState}
use Rattle.g_job.specs.Terminal.{with_stack}
use Rattle.g_job.specs.TurnEnd.{behind_turn, charged, end_by, is_money_up, is_time_up, up_line}
use Rattle.g_rules.specs.declared.turn.Turn.{Turn}
use Rattle.g_rules.specs.declared.turn.Turn.TheVariants as turns
use Rattle.g_lines.specs.Lines.{ended, lines_of}
use Rattle.g_macro.specs.Holding.{finished, with_typed}
use Rattle.g_macro.specs.Levels.{Stack}
use Rattle.g_monitor.specs.JobLines.{header, job_line as monitor_line}
use Rattle.g_monitor.specs.Parts.{full_text}
use Rattle.g_monitor.specs.Refusals.{fault_line}
use Rattle.g_monitor.specs.declared.job_lines.JobLine.TheVariants as ending
use Rattle.g_mop.specs.Seats.{none_text}
use Rattle.g_mop.specs.TerminalLines.{mark_of, shown_at, terminal_name}
use Rattle.g_plain.specs.Programs.{Answer, Asks, Call, Gives}
use Rattle.g_plain.specs.declared.calls.StoreCall.{StoreCall}
use Rattle.g_plain.specs.declared.faults.StoreFault.{StoreFault}
use Rattle.g_plain.specs.declared.faults.StoreFault.TheVariants.{DumpOpen, NotStarted, Running, Stopped}
use Rattle.g_script.specs.declared.operator.Operator.{Operator}
use Rattle.g_script.specs.declared.operator.Operator.TheVariants as line
use Rattle.g_script.specs.declared.operator.Timed.{Timed}
use Rattle.g_store_model.specs.CallStep.{Outcome, Plain, down}
use Rattle.g_store_model.specs.DumpSteps.{Completed, Going, Stepped as DumpStepped}
use Rattle.g_store_model.specs.Rising.{FormatStep, RestoreStep, StartStep}
use Rattle.g_store_model.specs.State.{OpenDump, State}
use Rattle.g_run_model.proofs.KeptDumpLemmas.{call_keeps, format_keeps, migrate_keeps, mount_keeps, open_keeps, restore_keeps, start_keeps, unmount_keeps}
use Rattle.g_run_model.proofs.ProcessedLemmas.{process_keeps}
use Rattle.g_run_model.specs.Accounts.{Opened, account_of}
use Rattle.g_run_model.specs.Events.{IsMigration, IsOpening, IsProcessing, IsTold}
use Rattle.g_run_model.specs.Laws.{HasDumped}
use Rattle.g_run_model.specs.Lines.{LineGives, at_terminal, changed_at, first_text, job_checks, job_line, job_refusal, line_refused, logged_in, login_checks, login_refusal, no_account, now_stands, open_at, room_checks, shut_with, sits_at, taken_in, tells, terminal_job, up_with}
use Rattle.g_run_model.specs.Moves.{Answered, Begin, Dumped, Move, Over, Run, Step, TakeLine, Ticked, TurnOver, dump_told, turn_told}
use Rattle.g_run_model.specs.Texts.{broken_files, closing, dump_text, ended_file, file_with, files_with, job_text, operator_line, processed_text, put_as, shown, started_text, tape_text, waiting_files, waiting_line}
use Rattle.g_run_model.specs.World.{World, can_step, goes_down, job_of, says, shows, with_job}
use Rattle.g_laws_lines.proofs.EventLemmas.{Any, IsToldAs, dump_told_as, format_told, migrate_told, mount_told, open_told, process_told, restore_told, start_told, unmount_told}
use Rattle.g_laws_lines.proofs.LevelLemmas.{AreFineLevels, typed_fine}
use Rattle.g_laws_lines.proofs.PrintLemmas.{IsFineCall, IsFineFull, IsFinePath, fault_is_line, full_line, header_may, job_may, numbers_line, reply_may}
use Rattle.g_laws_lines.proofs.StateLemmas.{AreNamed, IsNamedAnswer, call_named, call_names, dump_dumps, dump_names, format_names, migrate_names, mount_names, names_down, open_names, process_names, restore_names, start_names, unmount_names}
use Rattle.g_laws_lines.proofs.TextLemmas.{IsMade, are_lines, both_line, decimal_line, is_line, is_marked, lines_lines, made_both, made_more, made_none, made_one, may_print, not_this}
use Rattle.g_laws_lines.proofs.TurnLemmas.{begins_fine}
use Rattle.g_laws_lines.proofs.UnitLemmas.{AreFineOutputs}
use Rattle.g_laws_lines.proofs.WorkLemmas.{AlwaysFine, IsFine, IsFineAnswer, IsFinePending}

-- AN OPERATOR'S LINE begins with a digit
abbrev begins_well : List ℕ → Bool
begins_well [] = false
begins_well (b ∷ bs) = not (b == 63)

glyph_begins : (d : ℕ) → not (digit_glyph false d == 63) ≡ true
glyph_begins d = by (nat_lt d 10) refl
  where
    other : (x : ℕ) → (x ≡ 63 → ⊥) → not (x == 63) ≡ true
    other x isnt = not_this 63 x isnt

    by : (b : Bool) → nat_lt d 10 ≡ b → not ((if b then 48 + d else 87 + d) == 63) ≡ true
    by true e = other (48 + d) (λ is. let no : ⊥ = omega (arith, ltb-true d 10 e, is) in no)
    by false e = other (87 + d) (λ is. let no : ⊥ = omega (arith, is) in no)

digits_begin : (k base n : ℕ) (rest : List ℕ) → begins_well rest ≡ true → begins_well (digits_onto k base false n rest) ≡ true
digits_begin zero base n rest begins = begins
digits_begin (suc k) base n rest begins = by (n / base == 0) (digits_begin k base (n / base) (digit_glyph false (n % base) ∷ rest) (glyph_begins (n % base)))
  where
    by : (b : Bool) → begins_well (digits_onto k base false (n / base) (digit_glyph false (n % base) ∷ rest)) ≡ true
        → begins_well (if b then digit_glyph false (n % base) ∷ rest else digits_onto k base false (n / base) (digit_glyph false (n % base) ∷ rest)) ≡ true
    by true on = glyph_begins (n % base)
    by false on = on

decimal_begins : (n : ℕ) → begins_well (decimal n) ≡ true
unfolding digits
decimal_begins n = by (n / 10 == 0) (digits_begin 63 10 (n / 10) (digit_glyph false (n % 10) ∷ []) (glyph_begins (n % 10)))
  where
    by : (b : Bool) → begins_well (digits_onto 63 10 false (n / 10) (digit_glyph false (n % 10) ∷ [])) ≡ true
        → begins_well (if b then digit_glyph false (n % 10) ∷ [] else digits_onto 63 10 false (n / 10) (digit_glyph false (n % 10) ∷ [])) ≡ true
    by true on = glyph_begins (n % 10)
    by false on = on

unmarked : (a b : List ℕ) → begins_well a ≡ true → not (is_marked (a ++ b)) ≡ true
unmarked [] b begins = absurd (false≢true begins)
unmarked (c ∷ a) b begins = begins

begins_more : (a b : List ℕ) → begins_well a ≡ true → begins_well (a ++ b) ≡ true
begins_more [] b begins = absurd (false≢true begins)
begins_more (c ∷ a) b begins = begins

operator_may : (count : ℕ) (what : List ℕ) → is_line what ≡ true → may_print ((decimal count ++ codes " ") ++ what) ≡ true
operator_may count what is =
    and_from _ _ (unmarked (decimal count ++ codes " ") what (begins_more (decimal count) (codes " ") (decimal_begins count)))
    (both_line (decimal count ++ codes " ") what (both_line (decimal count) (codes " ") (decimal_line count) refl) is)

-- WHAT IS PRINTED of files
shown_lines : (t : ℕ) (lines : List (List ℕ)) → are_lines lines ≡ true → IsMade (flat_map (λ (l : List ℕ). ended (mark_of t ++ l)) lines)
shown_lines t [] are = made_none
shown_lines t (l ∷ lines) are =
    let parts = and_parts _ _ are in
    made_both (ended (mark_of t ++ l)) (flat_map (λ (x : List ℕ). ended (mark_of t ++ x)) lines)
    (made_one (mark_of t ++ l) (both_line (decimal t ++ codes " ") l (both_line (decimal t) (codes " ") (decimal_line t) refl) parts.0)) (shown_lines t lines parts.1)

shown_made : (t : ℕ) (added : List ℕ) → IsMade (shown_at t added)
shown_made t added = shown_lines t (lines_of added) (lines_lines added)

put_made : (terminal : Option ℕ) (whole added : List ℕ) → IsMade whole → IsMade (put_as terminal whole added)
put_made None whole added made = made
put_made (Some t) whole added made = shown_made t added

-- A JOB
abbrev pub IsFineJob : JobState → Type 0
IsFineJob j = (is_line j.user ≡ true) × AreFineLevels j.desk.levels.levels × AreFineOutputs j.desk.units.writers × IfSome j.pending IsFinePending × IsMade j.monitor

abbrev pub AreFineJobs : List JobState → Type 0
AreFineJobs jobs = AllByRecursion IsFineJob jobs

files_made : (last : JobState → List ℕ) → ((j : JobState) → may_print (last j) ≡ true) → (jobs : List JobState) → AreFineJobs jobs → IsMade (files_with last jobs)
files_made last may [] fine = made_none
files_made last may (j ∷ jobs) fine =
    made_both (file_with last j) (files_with last jobs) (put_made j.terminal (j.monitor ++ ended (last j)) (ended (last j)) (made_more j.monitor (last j) fine.0.4 (may j))) (files_made last may jobs fine.1)

waiting_may : (wants : Option ℕ) → may_print (waiting_line wants) ≡ true
waiting_may None = refl
waiting_may (Some serial) = decimal_line serial

closing_made : (bad : Option ℕ) → IsMade (closing bad)
closing_made None = made_none
closing_made (Some k) = made_one (codes "SCRIPT LINE " ++ decimal k) (decimal_line k)

-- lists of jobs
jobs_with : (after : JobState) → IsFineJob after → (jobs : List JobState) → AreFineJobs jobs → AreFineJobs (with_job after jobs)
jobs_with after fine [] h = tt
jobs_with after fine (j ∷ jobs) h = (by (j.number == after.number), jobs_with after fine jobs h.1)
  where
    by : (b : Bool) → IsFineJob (if b then after else j)
    by true = fine
    by false = h.0

jobs_filtered : (p : JobState → Bool) (jobs : List JobState) → AreFineJobs jobs → AreFineJobs (filter p jobs)
jobs_filtered p [] h = tt
jobs_filtered p (j ∷ jobs) h = by (p j) (jobs_filtered p jobs h.1)
  where
    by : (b : Bool) → AreFineJobs (filter p jobs) → AreFineJobs (cond b (j ∷ filter p jobs) (filter p jobs))
    by true rest = (h.0, rest)
    by false rest = rest

jobs_found : (p : JobState → Bool) (jobs : List JobState) → AreFineJobs jobs → IfSome (find p jobs) IsFineJob
jobs_found p [] h = tt
jobs_found p (j ∷ jobs) h = by (p j) (jobs_found p jobs h.1)
  where
    by : (b : Bool) → IfSome (find p jobs) IsFineJob → IfSome (cond b (Some j) (find p jobs)) IsFineJob
    by true rest = h.0
    by false rest = rest

jobs_at : (jobs : List JobState) (place : ℕ) → AreFineJobs jobs → IfSome (slice_get jobs place) IsFineJob
jobs_at [] place h = tt
jobs_at (j ∷ jobs) zero h = h.0
jobs_at (j ∷ jobs) (suc place) h = jobs_at jobs place h.1

jobs_push : (jobs : List JobState) (j : JobState) → AreFineJobs jobs → IsFineJob j → AreFineJobs (jobs ++ j ∷ [])
jobs_push [] j h fine = (fine, tt)
jobs_push (k ∷ jobs) j h fine = (h.0, jobs_push jobs j h.1 fine)

job_is : (o : Option JobState) (job : JobState) → o ≡ Some job → IfSome o IsFineJob → IsFineJob job
job_is o job is fine = subst (λ (x : Option JobState). IfSome x IsFineJob) is fine

-- the job after its turn
end_fine : (j : JobState) (w : Work) → IsFineJob j → IsFine w → (stop : Option Stop) (charge : Option Charge) → IfSome (end_by stop j w charge) (λ e. IsFineJob e.1)
end_fine j w h v (Some (Waits serial)) None = (h.0, v.0, v.1, v.2, h.4)
end_fine j w h v (Some (Waits serial)) (Some charge) = tt
end_fine j w h v (Some Broken) None = (h.0, v.0, v.1, tt, made_both j.monitor w.text h.4 v.3)
end_fine j w h v (Some Broken) (Some charge) = tt
end_fine j w h v (Some Full) None = tt
end_fine j w h v (Some Full) (Some charge) = (h.0, v.0, v.1, tt, made_more (j.monitor ++ w.text) (monitor_line ending.Full) (made_both j.monitor w.text h.4 v.3) (job_may ending.Full))
end_fine j w h v (Some Done) None = tt
end_fine j w h v (Some Done) (Some charge) =
    let end = ending.End (charged j w charge).used in (h.0, v.0, v.1, tt, made_more (j.monitor ++ w.text) (monitor_line end) (made_both j.monitor w.text h.4 v.3) (job_may end))
end_fine j w h v None None = tt
end_fine j w h v None (Some charge) = by (is_time_up j charge) (is_money_up j charge)
  where
    both : IsMade (j.monitor ++ w.text)
    both = made_both j.monitor w.text h.4 v.3

    by : (time money : Bool) → IsFineJob (behind_turn (charged j w charge) (up_line time money (charged j w charge)))
    by true money = let up = ending.TimeUp (charged j w charge).used in (h.0, v.0, v.1, tt, made_more (j.monitor ++ w.text) (monitor_line up) both (job_may up))
    by false true = let up = ending.MoneyUp (charged j w charge).used_money in (h.0, v.0, v.1, tt, made_more (j.monitor ++ w.text) (monitor_line up) both (job_may up))
    by false false = (h.0, v.0, v.1, tt, both)

-- A LINE OF THE SCRIPT
abbrev pub IsFineOperator : Operator → Type 0
IsFineOperator (line.Job name user time money lines) = (is_line name ≡ true) × (is_line user ≡ true) × (are_lines lines ≡ true)
IsFineOperator (line.Login t user time) = is_line user ≡ true
IsFineOperator (line.Typed t text) = is_line text ≡ true
IsFineOperator (line.Migrate path) = IsFinePath path
IsFineOperator other = Unit {0}

-- THE WORLD: its lines, the names of its store, its jobs, the rest of a turn, and its text
abbrev pub IsFineWorld : World → Type 0
IsFineWorld w =
    AllByRecursion (λ (l : Timed). IsFineOperator l.what) w.lines × AreNamed w.store × HasDumped w.store × AreFineJobs w.jobs × IfSome w.turn (λ (t : ℕ × Asks Work). AlwaysFine t.1) × IsMade w.text

world_is : (new v : World) → new ≡ v → IsFineWorld v → IsFineWorld new
world_is new v is h = subst IsFineWorld (sym is) h

says_fine : (what : List ℕ) (w : World) → is_line what ≡ true → IsFineWorld w → IsFineWorld (says what w)
says_fine what w is h = (h.0, h.1, h.2, h.3, h.4, made_more w.text ((decimal w.count ++ codes " ") ++ what) h.5 (operator_may w.count what is))

down_fine : (what : List ℕ) (s : State) (w : World) → is_line what ≡ true → AreNamed s → HasDumped s → IsFineWorld w → IsFineWorld (goes_down what s w)
down_fine what s w is named dumps h = (
  h.0,
  named,
  dumps,
  tt,
  h.4,
  made_both (w.text ++ operator_line w.count what) (broken_files w.jobs) (made_more w.text ((decimal w.count ++ codes " ") ++ what) h.5 (operator_may w.count what is))
      (files_made (λ j. codes "BREAK") (λ j. refl) w.jobs h.3),
)

refused_fine : (fault : StoreFault) (w : World) → is_line (fault_line fault) ≡ true → IsFineWorld w → IsFineWorld (line_refused fault w)
refused_fine fault w is h = says_fine (codes "REFUSED " ++ fault_line fault) w is h

-- an event of the store
module _ {R : Type 0} (P : R → Type 0) (said : R → List ℕ) (line_is : (x : R) → P x → is_line (said x) ≡ true) where
  up_fine : (r : Result R StoreFault) (s : State) (w : World) → IsToldAs P r → AreNamed s → HasDumped s → IsFineWorld w → IsFineWorld (tells (λ x t v. up_with (said x) t v) r s w)
  up_fine (Ok x) s w told named dumps h = let all = says_fine (said x) w (line_is x told) h in (all.0, named, dumps, all.3, all.4, all.5)
  up_fine (Err Stopped) s w told named dumps h = down_fine (codes "SYSTEM STOPPED") s w refl named dumps h
  up_fine (Err fault) s w told named dumps h = refused_fine fault (record w { store = s }) (fault_is_line fault told) (h.0, named, dumps, h.3, h.4, h.5)

  stands_fine : (r : Result R StoreFault) (s : State) (w : World) → IsToldAs P r → AreNamed s → HasDumped s → IsFineWorld w → IsFineWorld (tells (λ x t v. now_stands (said x) t v) r s w)
  stands_fine (Ok x) s w told named dumps h = says_fine (said x) (record w { store = s }) (line_is x told) (h.0, named, dumps, h.3, h.4, h.5)
  stands_fine (Err Stopped) s w told named dumps h = down_fine (codes "SYSTEM STOPPED") s w refl named dumps h
  stands_fine (Err fault) s w told named dumps h = refused_fine fault (record w { store = s }) (fault_is_line fault told) (h.0, named, dumps, h.3, h.4, h.5)

  rises_fine : (Does : State → Outcome → Result R StoreFault → State → Type 0) (o : Outcome) (w new : World) (b : Bool)
      → ((r : Result R StoreFault) (s : State) → Does w.store o r s → IsToldAs P r × AreNamed s × HasDumped s) → IsFineWorld w
      → MatchBool (not b) ((r : Result R StoreFault) × (s : State) × (Does w.store o r s × IsTold o r) × (new ≡ tells (λ x t v. up_with (said x) t v) r s w)) ((o ≡ Plain) × (new ≡ line_refused Running w)) → IsFineWorld new
  rises_fine Does o w new true leaves h (plain, is) = world_is new (line_refused Running w) is (refused_fine Running w refl h)
  rises_fine Does o w new false leaves h (r, s, (does, so), is) =
      let left = leaves r s does in world_is new (tells (λ x t v. up_with (said x) t v) r s w) is (up_fine r s w left.0 left.1 left.2 h)

  needs_fine : (Does : Result R StoreFault → State → Type 0) (o : Outcome) (w new : World) (b : Bool)
      → ((r : Result R StoreFault) (s : State) → Does r s → IsToldAs P r × AreNamed s × HasDumped s) → IsFineWorld w
      → MatchBool b ((r : Result R StoreFault) × (s : State) × Does r s × (new ≡ tells (λ x t v. now_stands (said x) t v) r s w)) ((o ≡ Plain) × (new ≡ line_refused NotStarted w)) → IsFineWorld new
  needs_fine Does o w new true leaves h (r, s, does, is) =
      let left = leaves r s does in world_is new (tells (λ x t v. now_stands (said x) t v) r s w) is (stands_fine r s w left.0 left.1 left.2 h)
  needs_fine Does o w new false leaves h (plain, is) = world_is new (line_refused NotStarted w) is (refused_fine NotStarted w refl h)

-- SHUT
shut_fine : (w new : World) (b : Bool) → IsFineWorld w → new ≡ (if b then shut_with w.store.open_dump w else line_refused NotStarted w) → IsFineWorld new
shut_fine w new true h is = world_is new _ is (by w.store.open_dump)
  where
    by : (d : Option OpenDump) → IsFineWorld (shut_with d w)
    by (Some d) = refused_fine (DumpOpen d.number) w (decimal_line d.number) h
    by None = down_fine (codes "SHUT") (down w.store) w refl (names_down w.store h.1) h.2 h
shut_fine w new false h is = world_is new _ is (refused_fine NotStarted w refl h)

-- JOB and LOGIN: their refusals
first_line : (checks : List (Bool × List ℕ)) → AllByRecursion (λ (c : Bool × List ℕ). is_line c.1 ≡ true) checks → IfSome (first_text checks) (λ t. is_line t ≡ true)
first_line [] all = tt
first_line (c ∷ checks) all = by c.0 (first_line checks all.1)
  where
    by : (b : Bool) → IfSome (first_text checks) (λ t. is_line t ≡ true) → IfSome (if b then Some c.1 else first_text checks) (λ t. is_line t ≡ true)
    by true rest = all.0
    by false rest = rest

room_lines : (w : World) (time money : ℕ) (a : Opened) → AllByRecursion (λ (c : Bool × List ℕ). is_line c.1 ≡ true) (room_checks w time money a)
room_lines w time money a = (refl, (numbers_line time _, (numbers_line money _, tt)))

number_name : (n : ℕ) (name how : List ℕ) → is_line name ≡ true → is_line how ≡ true → is_line (job_text n (name ++ how)) ≡ true
number_name n name how one two = both_line (decimal n ++ codes " ") (name ++ how) (both_line (decimal n) (codes " ") (decimal_line n) refl) (both_line name how one two)

none_fine : (n : ℕ) → AreFineOutputs (replicate n None)
none_fine zero = tt
none_fine (suc n) = (tt, none_fine n)

begun_fine : (number : ℕ) (name user : List ℕ) (time money : ℕ) (lines : List (List ℕ)) → is_line name ≡ true → is_line user ≡ true → are_lines lines ≡ true → IsFineJob (job_begun number name user time money lines)
begun_fine number name user time money lines one two are = (two, ((are, refl, refl), tt), none_fine 16, tt, made_one (header number name user) (header_may number name user one two))

job_fine : (name user : List ℕ) (time money : ℕ) (lines : List (List ℕ)) (w : World) (refused : Option (List ℕ)) → IfSome refused (λ t. is_line t ≡ true) → is_line name ≡ true → is_line user ≡ true → are_lines lines ≡ true
    → IsFineWorld w → IsFineWorld (job_line refused (taken_in name user time money lines w) w)
job_fine name user time money lines w None none one two are h =
    let all = says_fine (job_text w.next_job (name ++ codes " IN")) w (number_name w.next_job name (codes " IN") one refl) h in
    (all.0, all.1, all.2, jobs_push w.jobs (job_begun w.next_job name user time money lines) h.3 (begun_fine w.next_job name user time money lines one two are), all.4, all.5)
job_fine name user time money lines w (Some text) is one two are h = says_fine (codes "REFUSED " ++ text) w is h

job_by_fine : (name user : List ℕ) (time money : ℕ) (lines : List (List ℕ)) (w : World) (b : Bool) → is_line name ≡ true → is_line user ≡ true → are_lines lines ≡ true → IsFineWorld w
    → IsFineWorld (if b then job_line (job_refusal w user time money) (taken_in name user time money lines w) w else line_refused NotStarted w)
job_by_fine name user time money lines w true one two are h =
    job_fine name user time money lines w (job_refusal w user time money) (first_line (job_checks w user time money (unwrap_or (account_of w.accounts user) (no_account user))) (refl, room_lines w time money (unwrap_or (account_of w.accounts user) (no_account user)))) one two are h
job_by_fine name user time money lines w false one two are h = refused_fine NotStarted w refl h

name_line : (t : ℕ) → is_line (terminal_name t) ≡ true
name_line t = decimal_line t

login_fine : (t : ℕ) (user : List ℕ) (time : ℕ) (w : World) (refused : Option (List ℕ)) → IfSome refused (λ x. is_line x ≡ true) → is_line user ≡ true → IsFineWorld w → IsFineWorld (job_line refused (logged_in t user time w) w)
login_fine t user time w None none is h =
    let all = says_fine (job_text w.next_job (terminal_name t ++ codes " IN")) w (number_name w.next_job (terminal_name t) (codes " IN") (name_line t) refl) h in (
      all.0,
      all.1,
      all.2,
      jobs_push w.jobs (terminal_job w.next_job t user time) h.3 (begun_fine w.next_job (terminal_name t) user time 1000 [] (name_line t) is refl),
      all.4,
      made_both (says (job_text w.next_job (terminal_name t ++ codes " IN")) w).text (shown_at t (terminal_job w.next_job t user time).monitor) all.5 (shown_made t (terminal_job w.next_job t user time).monitor),
    )
login_fine t user time w (Some text) is user_is h = says_fine (codes "REFUSED " ++ text) w is h

login_by_fine : (t : ℕ) (user : List ℕ) (time : ℕ) (w : World) (b : Bool) → is_line user ≡ true → IsFineWorld w
    → IsFineWorld (if b then job_line (login_refusal w t user time) (logged_in t user time w) w else line_refused NotStarted w)
login_by_fine t user time w true is h = login_fine t user time w (login_refusal w t user time) (first_line (login_checks w t user time (unwrap_or (account_of w.accounts user) (no_account user))) (refl, (decimal_line t, room_lines w time 1000 (unwrap_or (account_of w.accounts user) (no_account user))))) is h
login_by_fine t user time w false is h = refused_fine NotStarted w refl h

-- TYPE and LOGOUT
changed_fine : (t : ℕ) (change : Stack → Stack) → ((s : Stack) → AreFineLevels s.levels → AreFineLevels (change s).levels) → (w : World) (j : Option JobState) → IfSome j IsFineJob → IsFineWorld w
    → IsFineWorld (changed_at t (with_stack change) j w)
changed_fine t change keeps w None none h = says_fine (codes "REFUSED " ++ none_text t) w (decimal_line t) h
changed_fine t change keeps w (Some j) fine h =
    (h.0, h.1, h.2, jobs_with (with_stack change j) (fine.0, keeps j.desk.levels fine.1, fine.2, fine.3, fine.4) w.jobs h.3, h.4, h.5)

terminal_fine : (t : ℕ) (change : Stack → Stack) → ((s : Stack) → AreFineLevels s.levels → AreFineLevels (change s).levels) → (w : World) (b : Bool) → IsFineWorld w
    → IsFineWorld (if b then at_terminal t (with_stack change) w else line_refused NotStarted w)
terminal_fine t change keeps w true h = changed_fine t change keeps w (open_at t w.jobs) (jobs_found (λ j. sits_at t j && j.desk.levels.held) w.jobs h.3) h
terminal_fine t change keeps w false h = refused_fine NotStarted w refl h

-- A LINE
number_how : (n : ℕ) (how : List ℕ) → is_line how ≡ true → is_line ((decimal n ++ codes " ") ++ how) ≡ true
number_how n how is = both_line (decimal n ++ codes " ") how (both_line (decimal n) (codes " ") (decimal_line n) refl) is

started_line : (n : Option ℕ) → is_line (started_text n) ≡ true
started_line None = refl
started_line (Some n) = both_line (decimal n) (codes " ADOPTED") (decimal_line n) refl

line_fine : (o : Outcome) (what : Operator) (w new : World) → IsFineOperator what → IsFineWorld w → LineGives o what w new → IsFineWorld new
line_fine o line.Format w new a h gives =
    rises_fine Any (λ r. codes "FORMATTED") (λ x told. refl) FormatStep o w new w.store.up (λ r s does. (format_told w.store o r s does, format_names w.store o r s does h.1, format_keeps w.store o r s does h.2)) h gives
line_fine o line.Start w new a h gives =
    rises_fine Any started_text (λ n told. started_line n) StartStep o w new w.store.up (λ r s does. (start_told w.store o r s does, start_names w.store o r s does h.1, start_keeps w.store o r s does h.2)) h gives
line_fine o line.Restore w new a h gives =
    rises_fine Any (λ n. codes "RESTORED FROM DUMP " ++ decimal n) (λ n told. decimal_line n) RestoreStep o w new w.store.up
    (λ r s does. (restore_told w.store o r s h.2 does, restore_names w.store o r s does h.1, restore_keeps w.store o r s does h.2)) h gives
line_fine o line.Shut w new a h (plain, gives) = shut_fine w new w.store.up h gives
line_fine o (line.Job name user time money lines) w new a h (plain, is) = world_is new _ is (job_by_fine name user time money lines w w.store.up a.0 a.1 a.2 h)
line_fine o (line.Mount serial) w new a h (r, s, (plain, does), is) =
    world_is new _ is (stands_fine Any (λ _. tape_text serial (codes "MOUNTED")) (λ x told. number_how serial (codes "MOUNTED") refl) r s w (mount_told w.store serial r s does) (mount_names w.store serial r s does h.1) (mount_keeps w.store serial r s does h.2) h)
line_fine o (line.Unmount serial) w new a h (r, s, (plain, does), is) =
    world_is new _ is (stands_fine Any (λ _. tape_text serial (codes "UNMOUNTED")) (λ x told. number_how serial (codes "UNMOUNTED") refl) r s w (unmount_told w.store serial r s does) (unmount_names w.store serial r s does h.1) (unmount_keeps w.store serial r s does h.2) h)
line_fine o (line.Dump serial) w new a h gives =
    needs_fine Any (λ n. dump_text n (codes "OPENED")) (λ n told. number_how n (codes "OPENED") refl) (λ r s. IsOpening w.store serial o r s) o w new w.store.up
    (λ r s (k, holds, step, so). (open_told w.store k serial o r s step, open_names w.store k serial o r s holds step h.1, open_keeps w.store k serial o r s step h.2)) h gives
line_fine o (line.Process serial) w new a h gives =
    needs_fine Any (processed_text serial) (λ n told. both_line (decimal n ++ codes " ON ") (decimal serial) (both_line (decimal n) (codes " ON ") (decimal_line n) refl) (decimal_line serial)) (λ r s. IsProcessing w.store serial o r s) o w new w.store.up
    (λ r s (k, holds, step, so). (process_told w.store k serial o r s step, process_names w.store k serial o r s holds step h.1, process_keeps w.store k serial o r s step h.2)) h gives
line_fine o (line.Migrate path) w new a h gives =
    needs_fine IsFineFull (λ full. codes "MIGRATED " ++ full_text full) full_line (λ r s. IsMigration w.store path o r s) o w new w.store.up
    (λ r s (k, holds, step, so). (migrate_told w.store k path o r s a step, migrate_names w.store k _ _ o r s holds step h.1, migrate_keeps w.store k _ _ o r s step h.2)) h gives
line_fine o (line.StopDisc k) w new a h (plain, is) = world_is new _ is (says_fine (codes "STOP SET") (record w { disc_stops = w.disc_stops ++ k ∷ [] }) refl h)
line_fine o (line.StopTape k) w new a h (plain, is) = world_is new _ is (says_fine (codes "STOP SET") (record w { tape_stops = w.tape_stops ++ k ∷ [] }) refl h)
line_fine o (line.Login t user time) w new a h (plain, is) = world_is new _ is (login_by_fine t user time w w.store.up a h)
line_fine o (line.Typed t text) w new a h (plain, is) = world_is new _ is (terminal_fine t (with_typed text) (λ s fine. typed_fine text a s.levels fine) w w.store.up h)
line_fine o (line.Logout t) w new a h (plain, is) = world_is new _ is (terminal_fine t finished (λ s fine. fine) w w.store.up h)

-- A STEP OF THE DUMP, and the end of a turn
dump_fine : (n : ℕ) (r : Result DumpStepped StoreFault) (s : State) (w : World) → IsToldAs Any r → AreNamed s → HasDumped s → IsFineWorld w → IsFineWorld (dump_told n r s w)
dump_fine n (Ok Going) s w told named dumps h = (h.0, named, dumps, h.3, h.4, h.5)
dump_fine n (Ok (Completed m)) s w told named dumps h = let all = says_fine (dump_text m (codes "COMPLETED")) w (number_how m (codes "COMPLETED") refl) h in (all.0, named, dumps, all.3, all.4, all.5)
dump_fine n (Err Stopped) s w told named dumps h = down_fine (codes "SYSTEM STOPPED") s w refl named dumps h
dump_fine n (Err fault) s w told named dumps h =
    let all = says_fine (dump_text n (codes "LOST " ++ fault_line fault)) w (number_how n (codes "LOST " ++ fault_line fault) (fault_is_line fault told)) h in (all.0, named, dumps, all.3, all.4, all.5)

over_fine : (after : JobState) (t : Turn) (w : World) → IsFineJob after → IsFineWorld w → IsFineWorld (turn_told after t w)
over_fine after turns.Broken w fine h = down_fine (codes "SYSTEM STOPPED") w.store (record w { jobs = with_job after w.jobs }) refl h.1 h.2 (h.0, h.1, h.2, jobs_with after fine w.jobs h.3, h.4, h.5)
over_fine after (turns.Wants serial) w fine h =
    let all = says_fine (job_text after.number (codes "WANTS TAPE " ++ decimal serial)) w (number_how after.number (codes "WANTS TAPE " ++ decimal serial) (decimal_line serial)) h in
    (all.0, all.1, all.2, jobs_with after fine w.jobs h.3, all.4, all.5)
over_fine after (turns.Ran units money) w fine h = (h.0, h.1, h.2, jobs_with after fine w.jobs h.3, h.4, h.5)
over_fine after (turns.Ended units money) w fine h =
    (h.0, h.1, h.2, jobs_filtered (λ j. not (j.number == after.number)) w.jobs h.3, h.4, made_both w.text (ended_file after) h.5 (put_made after.terminal after.monitor [] fine.4))

shows_fine : (old new : JobState) (w : World) → IsFineWorld w → IsFineWorld (shows old new w)
shows_fine old new w h = (h.0, h.1, h.2, h.3, h.4, made_both w.text (shown old new) h.5 (put_made new.terminal [] (drop (length old.monitor) new.monitor) made_none))

-- the program of a turn
program_is : (t : Option (ℕ × Asks Work)) (number : ℕ) (p : Asks Work) → t ≡ Some (number, p) → IfSome t (λ (x : ℕ × Asks Work). AlwaysFine x.1) → AlwaysFine p
program_is t number p is fine = subst (λ (o : Option (ℕ × Asks Work)). IfSome o (λ (x : ℕ × Asks Work). AlwaysFine x.1)) is fine

answer_may : (asked : StoreCall) (given : Answer) → IsFineCall asked → IsNamedAnswer given → IsFineAnswer asked given
answer_may asked (Ok reply) names named = reply_may asked reply names named
answer_may asked (Err fault) names named = fault_is_line fault named

next_is : (lines : List Timed) (next : Timed) (rest : List Timed) → lines ≡ next ∷ rest → AllByRecursion (λ (l : Timed). IsFineOperator l.what) lines
    → IsFineOperator next.what × AllByRecursion (λ (l : Timed). IsFineOperator l.what) rest
next_is lines next rest is fine = subst (λ (ls : List Timed). AllByRecursion (λ (l : Timed). IsFineOperator l.what) ls) is fine

module _ {F U : Type 0} (tariffs : Shared F (Bor Usage × Unit {0}) Charge) (tariff : F) (rules : Shared U (Bor Standing × Unit {0}) ℕ) (rule : U) where
  -- A MOVE
  step_fine : (w new : World) (move : Move) → IsFineWorld w → Step tariffs tariff rules rule w move new → IsFineWorld new
  step_fine w new (TakeLine tape o) h (next, rest, lines, between, idle, due, is_tape, gives) =
      let now = next_is w.lines next rest lines h.0 in
      line_fine o next.what (record w { lines = rest }) new now.0 (now.1, h.1, h.2, h.3, h.4, h.5) gives
  step_fine w new (Dumped o) h (between, idle, undue, dumping, (r, s, (k, d, holds, opened, step, so), is)) =
      world_is new _ is (dump_fine _ r s w (dump_told_as w.store k d o r s step) (dump_names w.store k d o r s holds opened step h.1) (dump_dumps w.store k d o r s step h.2) h)
  step_fine w new (Begin number) h (idle, undue, ready, (place, job, chosen, there, named, is)) =
      let fine = job_is (slice_get (filter (can_step w.store) w.jobs) place) job there (jobs_at (filter (can_step w.store) w.jobs) place (jobs_filtered (can_step w.store) w.jobs h.3)) in
      world_is new _ is (h.0, h.1, h.2, h.3, begins_fine (room_of job) job.user fine.0 job.pending (begin job) fine.3 (fine.1, fine.2, tt, made_none), h.5)
  step_fine w new (Answered o) h (number, call, more, job, answer, s, asks, here, (k, holds, step, so), real, is) =
      let fine = job_is (job_of w number) job here (jobs_found (λ j. j.number == number) w.jobs h.3) in
      let program : AlwaysFine (Call call more) = program_is w.turn number (Call call more) asks h.4 in
      let answers = call_named w.store k job.user call holds program.0 fine.0 h.1 o answer s step in
      world_is new _ is (h.0, call_names w.store k job.user call holds program.0 o answer s step h.1, call_keeps w.store k job.user call o answer s step h.2, h.3, program.1 answer (answer_may call answer program.0 answers), h.5)
  step_fine w new (TurnOver number charge) h (work, job, turn, after, asks, here, priced, ends, is) =
      let fine = job_is (job_of w number) job here (jobs_found (λ j. j.number == number) w.jobs h.3) in
      let made : IsFine work = program_is w.turn number (Gives work) asks h.4 in
      let end : IsFineJob after = subst (λ (e : Option (Turn × JobState)). IfSome e (λ x. IsFineJob x.1)) ends (end_fine job work fine made work.stop charge) in
      let told = over_fine after turn (shows job after w) end (shows_fine job after w h) in
      world_is new _ is (told.0, told.1, told.2, told.3, tt, told.5)
  step_fine w new Ticked h (idle, done, is) = world_is new _ is h
  step_fine w new Over h (between, idle, lines, nothing, going, is) =
      world_is new _ is (h.0, h.1, h.2, tt, h.4, made_both (w.text ++ waiting_files w.jobs) (closing w.bad) (made_both w.text (waiting_files w.jobs) h.5 (files_made (λ j. waiting_line j.wants) (λ j. waiting_may j.wants) w.jobs h.3)) (closing_made w.bad))

  pub run_fine : (moves : List Move) (w last : World) → IsFineWorld w → Run tariffs tariff rules rule w moves last → IsFineWorld last
  run_fine [] w last h is = world_is last w is h
  run_fine (move ∷ moves) w last h (mid, step, run) = run_fine moves mid last (step_fine w mid move h step) run
