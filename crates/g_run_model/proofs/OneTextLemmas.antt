-- IF no count rose, the text follows from the script, the state that there was, the charges and the weigh rule.
-- serves: text_is_one
use Rattle.std.proofs.Common.{◌≡◌, ◌⊎◌, ◌<◌, ◌+◌, ◌&&◌, ◌++◌, ℕ, zero, suc, Bool, true, false, not, List, [], ◌∷◌, map, Option, Some, None, option_map, slice_get, Result, codes, if◌then◌else◌, refl, sym, ◌∙◌, ap, subst, inl, inr, arith}
use Rattle.std.proofs.lemmas.Bool.{false≢true}
use Rattle.std.proofs.lemmas.List.Elements.{recursion_from_All}
use Rattle.std.proofs.lemmas.Option.{slice_get-map, some_pair_parts}
use Rattle.std.specs.List.{AllByRecursion}
use Rattle.std.specs.Prelude.{MatchBool}
use Rattle.std.specs.Fmt.{decimal}
use Rattle.std.specs.Fn.{FnReturnsAt, Shared}
use denote.Ref.{Bor}
use Rattle.g_turn.specs.State.{Work}
use Rattle.g_rules.specs.declared.tariff.Charge.{Charge}
use Rattle.g_rules.specs.declared.tariff.Usage.{Usage}
use Rattle.g_job.specs.Beginning.{standing_of}
use Rattle.g_job.specs.TurnEnd.{turn_end}
use Rattle.g_job.specs.State.{JobState}
use Rattle.g_job.specs.Turns.{turn_work}
use Rattle.g_rules.specs.declared.turn.Turn.{Turn}
use Rattle.g_monitor.specs.Parts.{full_text}
use Rattle.g_plain.specs.Programs.{Answer, Asks, Call, Gives}
use Rattle.g_plain.specs.declared.calls.StoreCall.{StoreCall}
use Rattle.g_plain.specs.declared.faults.StoreFault.{StoreFault}
use Rattle.g_plain.specs.declared.faults.StoreFault.TheVariants.{NotStarted, Running}
use Rattle.g_rules.specs.Choice.{IsChosen, IsNoLater}
use Rattle.g_rules.specs.Rule.{IsInRange, IsWeighRule}
use Rattle.g_rules.specs.declared.rule.Standing.{Standing}
use Rattle.g_script.specs.declared.operator.Operator.{Operator}
use Rattle.g_script.specs.declared.operator.Operator.TheVariants as line
use Rattle.g_script.specs.declared.operator.Timed.{Timed}
use Rattle.g_store_model.specs.CallStep.{Outcome, Plain}
use Rattle.g_store_model.specs.DumpSteps.{DumpStep}
use Rattle.g_store_model.specs.Laws.{StepIsOne}
use Rattle.g_store_model.specs.Rising.{FormatStep, RestoreStep, StartStep}
use Rattle.g_store_model.specs.State.{OpenDump, State}
use Rattle.g_run_model.specs.Events.{IsCall, IsDumpStep, IsMigration, IsOpening, IsTold, IsProcessing}
use Rattle.g_run_model.specs.Laws.{HasDumped, IsPlain, IsTimed, OneText, charges_of}
use Rattle.g_run_model.specs.Lines.{LineGives, shut_with, line_refused, now_stands, tells, up_with}
use Rattle.g_run_model.specs.Moves.{Answered, Begin, Dumped, Move, Over, Run, Step, TakeLine, Ticked, TurnOver, turn_told}
use Rattle.g_run_model.specs.Texts.{dump_text, started_text, tape_text, processed_text}
use Rattle.g_run_model.specs.World.{Between, Phase, Stepped, Turned, World, able, can_step, closed, has_none, is_dumping, is_due, start, shows}
use Rattle.g_run_model.proofs.AlikeLemmas.{calls_alike, dumps_alike}
use Rattle.g_run_model.proofs.BareLemmas.{bare_open, bare_state}
use Rattle.g_run_model.proofs.CrewLemmas.{AreRising, listed, no_job, numbered, one_job}
use Rattle.g_run_model.proofs.EndsLemmas.{begun, step_goes, timed_on}
use Rattle.g_run_model.proofs.KeptDumpLemmas.{KeepsDumps, call_keeps, dump_keeps, format_keeps, migrate_keeps, mount_keeps, open_keeps, restore_keeps, start_keeps, unmount_keeps}
use Rattle.g_run_model.proofs.OverLemmas.{IsAtEnd, at_end, step_over}
use Rattle.g_run_model.proofs.TakenLemmas.{IsTakenIn}
use Rattle.g_run_model.proofs.TreeLemmas.{dump_store, job_by, login_by, told_stands, told_up, turn_store, typed_by}
use Rattle.g_job.specs.Terminal.{logged_out, typed_to}
use Rattle.g_run_model.proofs.WorldAlikeLemmas.{AreAlike, able_alike, bare_world, dumping_alike, lines_alike, steps_alike, turn_bare}
use Rattle.g_run_model.proofs.ProcessedLemmas.{process_keeps}

-- WHICH MOVE IS NEXT
data Kind : Type 0 where
  Takes : Kind
  Dumps : Kind
  Begins : Kind
  Answers : Kind
  Ends : Kind
  Ticks : Kind
  Closes : Kind

abbrev kind_of : Move → Kind
kind_of (TakeLine tape o) = Takes
kind_of (Dumped o) = Dumps
kind_of (Begin n) = Begins
kind_of (Answered o) = Answers
kind_of (TurnOver n c) = Ends
kind_of Ticked = Ticks
kind_of Over = Closes

-- by the lines that are left, between two ticks: whether one is due, a dump is open, and no job can step
abbrev between_by : List Timed → Bool → Bool → Bool → Kind
between_by [] due dumping none = if dumping then Dumps else (if none then Closes else Begins)
between_by (l ∷ lines) due dumping none = if due then Takes else (if dumping then Dumps else (if none then Takes else Begins))

abbrev phase_by : Phase → List Timed → Bool → Bool → Bool → Kind
phase_by Between lines due dumping none = between_by lines due dumping none
phase_by Stepped lines due dumping none = if none then Ticks else Begins
phase_by Turned lines due dumping none = Ticks

abbrev kind_by : Option (ℕ × Asks Work) → Phase → List Timed → Bool → Bool → Bool → Kind
kind_by None phase lines due dumping none = phase_by phase lines due dumping none
kind_by (Some (n, Call c more)) phase lines due dumping none = Answers
kind_by (Some (n, Gives w)) phase lines due dumping none = Ends

abbrev next_kind : World → Kind
next_kind w = kind_by w.turn w.phase w.lines (is_due w) (is_dumping w) (has_none (able w))

idle_kind : (w : World) (phase : Phase) → w.turn ≡ None → w.phase ≡ phase → next_kind w ≡ phase_by phase w.lines (is_due w) (is_dumping w) (has_none (able w))
idle_kind w phase idle is =
    ap (λ (t : Option (ℕ × Asks Work)). kind_by t w.phase w.lines (is_due w) (is_dumping w) (has_none (able w))) idle
    ∙ ap (λ (p : Phase). phase_by p w.lines (is_due w) (is_dumping w) (has_none (able w))) is

due_takes : (next : Timed) (rest : List Timed) (due dumping none : Bool) → (due ≡ true) ⊎ ((not dumping && none) ≡ true) → between_by (next ∷ rest) due dumping none ≡ Takes
due_takes next rest true dumping none e = refl
due_takes next rest false dumping none (inl e) = absurd (false≢true e)
due_takes next rest false true none (inr e) = absurd (false≢true e)
due_takes next rest false false true (inr e) = refl
due_takes next rest false false false (inr e) = absurd (false≢true e)

dump_steps : (lines : List Timed) (due dumping none : Bool) → due ≡ false → dumping ≡ true → between_by lines due dumping none ≡ Dumps
dump_steps [] due true none e d = refl
dump_steps [] due false none e d = absurd (false≢true d)
dump_steps (l ∷ lines) true dumping none e d = absurd (false≢true (sym e))
dump_steps (l ∷ lines) false true none e d = refl
dump_steps (l ∷ lines) false false none e d = absurd (false≢true d)

job_begins : (lines : List Timed) (due dumping none : Bool) → due ≡ false → dumping ≡ false → none ≡ false → between_by lines due dumping none ≡ Begins
job_begins lines due dumping true e d n = absurd (false≢true (sym n))
job_begins lines due true false e d n = absurd (false≢true (sym d))
job_begins [] due false false e d n = refl
job_begins (l ∷ lines) true false false e d n = absurd (false≢true (sym e))
job_begins (l ∷ lines) false false false e d n = refl

somebody : (jobs : List JobState) (place : ℕ) (job : JobState) → slice_get jobs place ≡ Some job → has_none jobs ≡ false
somebody [] zero job e = no_job job e
somebody [] (suc n) job e = no_job job e
somebody (j ∷ jobs) place job e = refl

stepped_begins : (none : Bool) → none ≡ false → (if none then Ticks else Begins) ≡ Begins
stepped_begins true e = absurd (false≢true (sym e))
stepped_begins false e = refl

stepped_ticks : (none : Bool) → none ≡ true → (if none then Ticks else Begins) ≡ Ticks
stepped_ticks true e = refl
stepped_ticks false e = absurd (false≢true e)

-- a charge is the same where both moves end a turn
abbrev SameCharge : Move → Move → Type 0
SameCharge (TurnOver n c) (TurnOver m d) = c ≡ d
SameCharge m n = Unit {0}

one_charge : (c d : Option Charge) (xs ys : List (Option Charge)) → c ∷ xs ≡ d ∷ ys → (c ≡ d) × (xs ≡ ys)
one_charge c d xs ys e = (cc, cc)

parted : (m n : Move) (moves others : List Move) → kind_of m ≡ kind_of n → charges_of (m ∷ moves) ≡ charges_of (n ∷ others) → SameCharge m n × (charges_of moves ≡ charges_of others)
parted (TakeLine tape o) (TakeLine tape2 p) moves others k e = (tt, e)
parted (Dumped o) (Dumped p) moves others k e = (tt, e)
parted (Begin a) (Begin b) moves others k e = (tt, e)
parted (Answered o) (Answered p) moves others k e = (tt, e)
parted (TurnOver a c) (TurnOver b d) moves others k e = one_charge c d (charges_of moves) (charges_of others) e
parted Ticked Ticked moves others k e = (tt, e)
parted Over Over moves others k e = (tt, e)
parted m n moves others k e = absurd (let no : ⊥ = cc in no)

-- a program that makes a call, and one that is done
abbrev asked_in : StoreCall → Asks Work → StoreCall
asked_in d (Call c more) = c
asked_in d (Gives w) = d

abbrev more_in : (Answer → Asks Work) → Asks Work → Answer → Asks Work
more_in d (Call c more) = more
more_in d (Gives w) = d

abbrev given_in : Work → Asks Work → Work
given_in d (Call c more) = d
given_in d (Gives w) = w

abbrev number_by : Option OpenDump → ℕ
number_by d = elim d [ None ↦ 0 | Some x ↦ x.number ]

number_bare : (d : Option OpenDump) → number_by (option_map bare_open d) ≡ number_by d
number_bare None = refl
number_bare (Some d) = refl

one_line : (a b : Timed) (xs ys : List Timed) → a ∷ xs ≡ b ∷ ys → (a ≡ b) × (xs ≡ ys)
one_line a b xs ys e = (cc, cc)

one_standing : (a b : Standing) → (let one : Option Standing = Some a in one ≡ Some b) → a ≡ b
one_standing a b e = cc

stands_for : (o : Option JobState) (st : Standing) → option_map standing_of o ≡ Some st → (j : JobState) × (o ≡ Some j) × (st ≡ standing_of j)
stands_for None st e = absurd (let no : ⊥ = cc in no)
stands_for (Some j) st e = (j, refl, sym (one_standing (standing_of j) st e))

first_one : (a n b m : ℕ) → IsNoLater a n b m → IsNoLater b m a n → n ≡ m
first_one a n b m (inl less) (inl more) = absurd (let no : ⊥ = omega (arith, less, more) in no)
first_one a n b m (inl less) (inr (same, le)) = absurd (let no : ⊥ = omega (arith, less, same) in no)
first_one a n b m (inr (same, le)) (inl more) = absurd (let no : ⊥ = omega (arith, more, same) in no)
first_one a n b m (inr (same, le)) (inr (same2, le2)) = omega (arith, le, le2)

-- what is stored after a move: a tree is dumped if a reel has a dump
stored : (s t new : State) → new ≡ t → KeepsDumps s t → KeepsDumps s new
stored s t new is keeps = subst (λ (x : State). KeepsDumps s x) (sym is) keeps

same_stored : (w new v : World) → new ≡ v → v.store ≡ w.store → KeepsDumps w.store new.store
same_stored w new v is same = stored w.store w.store new.store (ap (λ (x : World). x.store) is ∙ same) (λ has. has)

rises_stored : {R : Type 0} (Does : State → Outcome → Result R StoreFault → State → Type 0) (said : R → List ℕ) (o : Outcome) (w new : World) → ((r : Result R StoreFault) (s : State) → Does w.store o r s → KeepsDumps w.store s) → (b : Bool)
    → MatchBool (not b) ((r : Result R StoreFault) × (s : State) × (Does w.store o r s × IsTold o r) × (new ≡ tells (λ x t v. up_with (said x) t v) r s w)) ((o ≡ Plain) × (new ≡ line_refused Running w))
    → KeepsDumps w.store new.store
rises_stored Does said o w new keeps true (plain, is) = same_stored w new (line_refused Running w) is refl
rises_stored Does said o w new keeps false (r, s, (does, so), is) = stored w.store s new.store (ap (λ (x : World). x.store) is ∙ told_up said r s w) (keeps r s does)

needs_stored : {R : Type 0} (Does : Result R StoreFault → State → Type 0) (said : R → List ℕ) (o : Outcome) (w new : World) → ((r : Result R StoreFault) (s : State) → Does r s → KeepsDumps w.store s) → (b : Bool)
    → MatchBool b ((r : Result R StoreFault) × (s : State) × Does r s × (new ≡ tells (λ x t v. now_stands (said x) t v) r s w)) ((o ≡ Plain) × (new ≡ line_refused NotStarted w))
    → KeepsDumps w.store new.store
needs_stored Does said o w new keeps true (r, s, does, is) = stored w.store s new.store (ap (λ (x : World). x.store) is ∙ told_stands said r s w) (keeps r s does)
needs_stored Does said o w new keeps false (plain, is) = same_stored w new (line_refused NotStarted w) is refl

shuts_stored : (d : Option OpenDump) (w new : World) → new ≡ shut_with d w → KeepsDumps w.store new.store
shuts_stored (Some dump) w new is = same_stored w new _ is refl
shuts_stored None w new is = stored w.store _ new.store (ap (λ (x : World). x.store) is) (λ has. has)

shut_stored : (w new : World) (b : Bool) → new ≡ (if b then shut_with w.store.open_dump w else line_refused NotStarted w) → KeepsDumps w.store new.store
shut_stored w new true shuts = shuts_stored w.store.open_dump w new shuts
shut_stored w new false is = same_stored w new (line_refused NotStarted w) is refl

line_stored : (o : Outcome) (what : Operator) (w new : World) → LineGives o what w new → KeepsDumps w.store new.store
line_stored o line.Format w new gives = rises_stored FormatStep (λ r. codes "FORMATTED") o w new (λ r s does. format_keeps w.store o r s does) w.store.up gives
line_stored o line.Start w new gives = rises_stored StartStep started_text o w new (λ r s does. start_keeps w.store o r s does) w.store.up gives
line_stored o line.Restore w new gives = rises_stored RestoreStep (λ n. codes "RESTORED FROM DUMP " ++ decimal n) o w new (λ r s does. restore_keeps w.store o r s does) w.store.up gives
line_stored o line.Shut w new (plain, gives) = shut_stored w new w.store.up gives
line_stored o (line.Job name user time money lines) w new (plain, is) = same_stored w new _ is (job_by o name user time money lines w w.store.up)
line_stored o (line.Mount serial) w new (r, s, (plain, does), is) =
    stored w.store s new.store (ap (λ (x : World). x.store) is ∙ told_stands (λ _. tape_text serial (codes "MOUNTED")) r s w) (mount_keeps w.store serial r s does)
line_stored o (line.Unmount serial) w new (r, s, (plain, does), is) =
    stored w.store s new.store (ap (λ (x : World). x.store) is ∙ told_stands (λ _. tape_text serial (codes "UNMOUNTED")) r s w) (unmount_keeps w.store serial r s does)
line_stored o (line.Dump serial) w new gives =
    needs_stored (λ r s. IsOpening w.store serial o r s) (λ n. dump_text n (codes "OPENED")) o w new (λ r s (k, holds, step, so). open_keeps w.store k serial o r s step) w.store.up gives
line_stored o (line.Process serial) w new gives =
    needs_stored (λ r s. IsProcessing w.store serial o r s) (processed_text serial) o w new (λ r s (k, holds, step, so). process_keeps w.store k serial o r s step) w.store.up gives
line_stored o (line.Migrate path) w new gives =
    needs_stored (λ r s. IsMigration w.store path o r s) (λ full. codes "MIGRATED " ++ full_text full) o w new (λ r s (k, holds, step, so). migrate_keeps w.store k _ _ o r s step) w.store.up gives
line_stored o (line.StopDisc k) w new (plain, is) = same_stored w new _ is refl
line_stored o (line.StopTape k) w new (plain, is) = same_stored w new _ is refl
line_stored o (line.Login t user time) w new (plain, is) = same_stored w new _ is (login_by o t user time w w.store.up)
line_stored o (line.Typed t text) w new (plain, is) = same_stored w new _ is (typed_by t (typed_to text) w w.store.up)
line_stored o (line.Logout t) w new (plain, is) = same_stored w new _ is (typed_by t logged_out w w.store.up)

module _ {F U : Type 0} (tariffs : Shared F (Bor Usage × Unit {0}) Charge) (tariff : F) (rules : Shared U (Bor Standing × Unit {0}) ℕ) (rule : U) where
  step_stored : (w new : World) (move : Move) → IsPlain move → Step tariffs tariff rules rule w move new → KeepsDumps w.store new.store
  step_stored w new (TakeLine tape o) plain (next, rest, lines, between, idle, due, is_tape, gives) = line_stored o next.what (record w { lines = rest }) new gives
  step_stored w new (Dumped o) plain (between, idle, undue, dumping, (r, s, (k, d, holds, opened, step, so), is)) =
      stored w.store s new.store (ap (λ (x : World). x.store) is ∙ dump_store _ r s w) (dump_keeps w.store k d r s (subst (λ (x : Outcome). DumpStep w.store k d x r s) plain step))
  step_stored w new (Begin number) plain (idle, undue, ready, (place, job, chosen, there, named, is)) = same_stored w new _ is refl
  step_stored w new (Answered o) plain (number, call, more, job, answer, s, asks, here, (k, holds, step, so), real, is) =
      stored w.store s new.store (ap (λ (x : World). x.store) is) (call_keeps w.store k job.user call o answer s step)
  step_stored w new (TurnOver number charge) plain (work, job, turn, after, asks, here, priced, ends, is) = same_stored w new _ is (turn_store after turn (shows job after w))
  step_stored w new Ticked plain (idle, done, is) = same_stored w new _ is refl
  step_stored w new Over plain (between, idle, lines, nothing, going, is) = same_stored w new _ is refl

  -- EACH MOVE is the one that is next
  closes_kind : (w : World) (lines : List Timed) → lines ≡ [] → (due dumping none : Bool) → (not dumping && none) ≡ true → between_by lines due dumping none ≡ Closes
  closes_kind w [] e due true none n = absurd (false≢true n)
  closes_kind w [] e due false true n = refl
  closes_kind w [] e due false false n = absurd (false≢true n)
  closes_kind w (l ∷ lines) e due dumping none n = absurd (let no : ⊥ = cc in no)

  kind_is : (w new : World) (move : Move) → Step tariffs tariff rules rule w move new → next_kind w ≡ kind_of move
  kind_is w new (TakeLine tape o) (next, rest, lines, between, idle, due, is_tape, gives) =
      idle_kind w Between idle between ∙ ap (λ (ls : List Timed). between_by ls (is_due w) (is_dumping w) (has_none (able w))) lines ∙ due_takes next rest (is_due w) (is_dumping w) (has_none (able w)) due
  kind_is w new (Dumped o) (between, idle, undue, dumping, more) = idle_kind w Between idle between ∙ dump_steps w.lines (is_due w) (is_dumping w) (has_none (able w)) undue dumping
  kind_is w new (Begin number) (idle, undue, inl (between, still), (place, job, chosen, there, named, is)) =
      idle_kind w Between idle between ∙ job_begins w.lines (is_due w) (is_dumping w) (has_none (able w)) undue still (somebody (able w) place job there)
  kind_is w new (Begin number) (idle, undue, inr stepped, (place, job, chosen, there, named, is)) =
      idle_kind w Stepped idle stepped ∙ stepped_begins (has_none (able w)) (somebody (able w) place job there)
  kind_is w new (Answered o) (number, call, more, job, answer, s, asks, here, step, real, is) =
      ap (λ (t : Option (ℕ × Asks Work)). kind_by t w.phase w.lines (is_due w) (is_dumping w) (has_none (able w))) asks
  kind_is w new (TurnOver number charge) (work, job, turn, after, asks, here, priced, ends, is) =
      ap (λ (t : Option (ℕ × Asks Work)). kind_by t w.phase w.lines (is_due w) (is_dumping w) (has_none (able w))) asks
  kind_is w new Ticked (idle, inl turned, is) = idle_kind w Turned idle turned
  kind_is w new Ticked (idle, inr (stepped, none), is) = idle_kind w Stepped idle stepped ∙ stepped_ticks (has_none (able w)) none
  kind_is w new Over (between, idle, lines, nothing, going, is) = idle_kind w Between idle between ∙ closes_kind w w.lines lines (is_due w) (is_dumping w) (has_none (able w)) nothing

  next_alike : (w v : World) → AreAlike w v → next_kind w ≡ next_kind v
  next_alike w v alike =
      ap (λ (x : World). kind_by x.turn x.phase x.lines (is_due x) (is_dumping w) (has_none (able w))) alike
      ∙ ap (λ (b : Bool). kind_by v.turn v.phase v.lines (is_due v) b (has_none (able w))) (dumping_alike w v alike)
      ∙ ap (λ (jobs : List JobState). kind_by v.turn v.phase v.lines (is_due v) (is_dumping v) (has_none jobs)) (able_alike w v alike)

  -- WHAT IS KNOWN of the world
  record IsKnown (w : World) : Type 0 where
    pub every : (n : ℕ) → (f : ℕ) × (m : ℕ) × (c : ℕ) × IsTakenIn n false false 0 f m c w
    pub has : HasDumped w.store
    pub timed : AllByRecursion IsTimed w.lines
    pub over : (w.over ≡ false) ⊎ IsAtEnd w

  over_on : (w new : World) (move : Move) → (w.over ≡ false) ⊎ IsAtEnd w → Step tariffs tariff rules rule w move new → (new.over ≡ false) ⊎ IsAtEnd new
  over_on w new move (inl e) step = step_over tariffs tariff rules rule w new move e step
  over_on w new move (inr ends) step = absurd (at_end tariffs tariff rules rule w new move ends step)

  known_on : (w new : World) (move : Move) → IsPlain move → IsKnown w → Step tariffs tariff rules rule w move new → IsKnown new
  known_on w new move plain known step =
      let first = known.every 0 in
      let goes = step_goes 0 false false 0 tariffs tariff rules rule first.0 first.1 first.2 w new move (λ on. absurd (false≢true on)) known.timed first.3 step in
      record {
        every = λ n.
            let one = known.every n in
            let on = step_goes n false false 0 tariffs tariff rules rule one.0 one.1 one.2 w new move (λ on. absurd (false≢true on)) known.timed one.3 step in
            (on.0, on.1, on.2, on.5);
        has = step_stored w new move plain step known.has;
        timed = timed_on 0 false false 0 tariffs tariff rules rule w.lines new.lines first.1 goes.1 goes.6 known.timed;
        over = over_on w new move known.over step;
      }

  -- THE CHOICE is one
  same_weight : IsWeighRule rules rule → (st : Standing) (a b : ℕ) → IsInRange st → FnReturnsAt rules rule st a → FnReturnsAt rules rule st b → a ≡ b
  same_weight weigh st a b range one two = weigh.same one.shown two.shown a b (subst IsInRange (sym one.shows) range) (one.shows ∙ sym two.shows) one.says.met two.says.met

  chosen_one : IsWeighRule rules rule → (list : List Standing) → ((place : ℕ) (st : Standing) → slice_get list place ≡ Some st → IsInRange st) → (p q : ℕ) (one : IsChosen rules rule list p) (two : IsChosen rules rule list q)
      → one.standing.number ≡ two.standing.number
  chosen_one weigh list range p q one two =
      let left = one.least q two.standing two.there in
      let right = two.least p one.standing one.there in
      let is_left : left.0 ≡ two.weight = same_weight weigh two.standing left.0 two.weight (range q two.standing two.there) left.1 two.weighed in
      let is_right : right.0 ≡ one.weight = same_weight weigh one.standing right.0 one.weight (range p one.standing one.there) right.1 one.weighed in
      first_one one.weight one.standing.number two.weight two.standing.number
      (subst (λ (x : ℕ). IsNoLater one.weight one.standing.number x two.standing.number) is_left left.2)
      (subst (λ (x : ℕ). IsNoLater two.weight two.standing.number x one.standing.number) is_right right.2)

  in_range : (w : World) → IsKnown w → (place : ℕ) (st : Standing) → slice_get (map standing_of (able w)) place ≡ Some st → IsInRange st
  in_range w known place st there =
      let one = stands_for (slice_get (able w) place) st (sym (slice_get-map standing_of (able w) place) ∙ there) in
      let found = listed (can_step w.store) 0 w.jobs w.next_job place one.0 (known.every 0).3.rising one.1 in
      let fair = (known.every one.0.number).3.within one.0 found.1 in
      let used : one.0.used < one.0.allowance = fair.0 in
      subst IsInRange (sym one.2) (record { something = omega (arith, used); allowance = fair.1; used = omega (arith, used) })

  -- the number of the chosen job
  chosen_number : (w : World) (place : ℕ) (job : JobState) → slice_get (able w) place ≡ Some job → (chosen : IsChosen rules rule (map standing_of (able w)) place) → chosen.standing.number ≡ job.number
  chosen_number w place job there chosen =
      ap (λ (x : Standing). x.number) (one_standing chosen.standing (standing_of job) (sym chosen.there ∙ slice_get-map standing_of (able w) place ∙ ap (option_map standing_of) there))

  module _ (weigh : IsWeighRule rules rule) (is_one : StepIsOne) where
    -- ONE MOVE of each
    step_alike : (w v new other : World) (m n : Move) → IsKnown w → AreRising 0 v.jobs v.next_job → AreAlike w v → IsPlain m → IsPlain n → SameCharge m n → kind_of m ≡ kind_of n
        → Step tariffs tariff rules rule w m new → Step tariffs tariff rules rule v n other → AreAlike new other
    step_alike w v new other (TakeLine tape o) (TakeLine tape2 p) known rising alike plain plain2 charge kind (next, rest, lines, between, idle, due, is_tape, gives) (next2, rest2, lines2, between2, idle2, due2, is_tape2, gives2) =
        let parts = one_line next next2 rest rest2 (sym lines ∙ ap (λ (x : World). x.lines) alike ∙ lines2) in
        lines_alike next.what (record w { lines = rest }) (record v { lines = rest2 }) new other
        (ap (λ (x : World). let y : World = record x { lines = rest } in y) alike ∙ ap (λ (ls : List Timed). let y : World = record (bare_world v) { lines = ls } in y) parts.1)
        known.has (subst (λ (x : Outcome). LineGives x next.what (record w { lines = rest }) new) plain gives)
        (subst (λ (x : Timed). LineGives Plain x.what (record v { lines = rest2 }) other) (sym parts.0) (subst (λ (x : Outcome). LineGives x next2.what (record v { lines = rest2 }) other) plain2 gives2))
    step_alike w v new other (Dumped o) (Dumped p) known rising alike plain plain2 charge kind (between, idle, undue, dumping, (r, s, step, is)) (between2, idle2, undue2, dumping2, (r2, s2, step2, is2)) =
        steps_alike _ _ (sym (number_bare w.store.open_dump) ∙ ap (λ (x : World). number_by x.store.open_dump) alike ∙ number_bare v.store.open_dump) w v new other alike r r2 s s2
        (dumps_alike w.store v.store r r2 s s2 (ap (λ (x : World). x.store) alike)
        (subst (λ (x : Outcome). IsDumpStep w.store x r s) plain step) (subst (λ (x : Outcome). IsDumpStep v.store x r2 s2) plain2 step2)) is is2
    step_alike w v new other (Begin a) (Begin b) known rising alike plain plain2 charge kind (idle, undue, ready, (place, job, chosen, there, named, is)) (idle2, undue2, ready2, (place2, job2, chosen2, there2, named2, is2)) =
        let able_same : able v ≡ able w = sym (able_alike w v alike) in
        let here : IsChosen rules rule (map standing_of (able w)) place2 = subst (λ (jobs : List JobState). IsChosen rules rule (map standing_of jobs) place2) able_same chosen2 in
        let there_too : slice_get (able w) place2 ≡ Some job2 = subst (λ (jobs : List JobState). slice_get jobs place2 ≡ Some job2) able_same there2 in
        let numbers : job.number ≡ job2.number =
        sym (chosen_number w place job there chosen) ∙ chosen_one weigh (map standing_of (able w)) (in_range w known) place place2 chosen here ∙ chosen_number w place2 job2 there_too here in
        let found = listed (can_step w.store) 0 w.jobs w.next_job place job (known.every 0).3.rising there in
        let found2 = listed (can_step w.store) 0 w.jobs w.next_job place2 job2 (known.every 0).3.rising there_too in
        let jobs : job ≡ job2 = one_job job job2 (sym found.1 ∙ ap (λ (x : ℕ). numbered x w.jobs) numbers ∙ found2.1) in
        ap bare_world is ∙ ap (λ (x : World). let y : World = record x { turn = Some (job.number, turn_work job); phase = Stepped } in y) alike
        ∙ ap (λ (j : JobState). let y : World = record (bare_world v) { turn = Some (j.number, turn_work j); phase = Stepped } in y) jobs ∙ sym (ap bare_world is2)
    step_alike w v new other (Answered o) (Answered p) known rising alike plain plain2 charge kind (number, call, more, job, answer, s, asks, here, step, real, is) (number2, call2, more2, job2, answer2, s2, asks2, here2, step2, real2, is2) =
        let parts = some_pair_parts number number2 (Call call more) (Call call2 more2) (sym asks ∙ ap (λ (x : World). x.turn) alike ∙ asks2) in
        let calls : call ≡ call2 = ap (asked_in call) parts.1 in
        let mores : more ≡ more2 = ap (more_in more) parts.1 in
        let jobs : job ≡ job2 = one_job job job2 (sym here ∙ ap (λ (x : ℕ). numbered x w.jobs) parts.0 ∙ ap (λ (x : World). numbered number2 x.jobs) alike ∙ here2) in
        let same = calls_alike is_one w.store v.store job.user call answer answer2 s s2 (ap (λ (x : World). x.store) alike)
        (subst (λ (x : Outcome). IsCall w.store job.user call x answer s) plain step)
        (subst (λ (x : JobState). IsCall v.store x.user call Plain answer2 s2) (sym jobs) (subst (λ (x : StoreCall). IsCall v.store job2.user x Plain answer2 s2) (sym calls) (subst (λ (x : Outcome). IsCall v.store job2.user call2 x answer2 s2) plain2 step2))) in
        let turn : Answer → (Answer → Asks Work) → ℕ → Option (ℕ × Asks Work) = λ y f x. Some (x, f y) in
        ap bare_world is
        ∙ ap (λ (x : World). let y : World = record x { store = bare_state s; turn = turn answer more number } in y) alike
        ∙ ap (λ (x : State). let y : World = record (bare_world v) { store = x; turn = turn answer more number } in y) same.1
        ∙ ap (λ (x : Answer). let y : World = record (bare_world v) { store = bare_state s2; turn = turn x more number } in y) same.0
        ∙ ap (λ (f : Answer → Asks Work). let y : World = record (bare_world v) { store = bare_state s2; turn = turn answer2 f number } in y) mores
        ∙ ap (λ (x : ℕ). let y : World = record (bare_world v) { store = bare_state s2; turn = turn answer2 more2 x } in y) parts.0
        ∙ sym (ap bare_world is2)
    step_alike w v new other (TurnOver a c) (TurnOver b d) known rising alike plain plain2 charge kind (work, job, turn, after, asks, here, priced, ends, is) (work2, job2, turn2, after2, asks2, here2, priced2, ends2, is2) =
        let parts = some_pair_parts a b (Gives work) (Gives work2) (sym asks ∙ ap (λ (x : World). x.turn) alike ∙ asks2) in
        let works : work ≡ work2 = ap (given_in work) parts.1 in
        let jobs : job ≡ job2 = one_job job job2 (sym here ∙ ap (λ (x : ℕ). numbered x w.jobs) parts.0 ∙ ap (λ (x : World). numbered b x.jobs) alike ∙ here2) in
        let end = some_pair_parts turn turn2 after after2
        (sym ends ∙ ap (λ (x : JobState). turn_end x work c) jobs ∙ ap (λ (x : Work). turn_end job2 x c) works ∙ ap (λ (x : Option Charge). turn_end job2 work2 x) charge ∙ ends2) in
        ap bare_world is
        ∙ ap (λ (x : World). let y : World = record x { turn = None; phase = Turned } in y)
        (turn_bare after turn (shows job after w)
        ∙ ap (λ (x : JobState). turn_told x turn (shows job x (bare_world w))) end.1
        ∙ ap (λ (x : JobState). turn_told after2 turn (shows x after2 (bare_world w))) jobs
        ∙ ap (λ (x : Turn). turn_told after2 x (shows job2 after2 (bare_world w))) end.0
        ∙ ap (λ (x : World). turn_told after2 turn2 (shows job2 after2 x)) alike ∙ sym (turn_bare after2 turn2 (shows job2 after2 v)))
        ∙ sym (ap bare_world is2)
    step_alike w v new other Ticked Ticked known rising alike plain plain2 charge kind (idle, done, is) (idle2, done2, is2) =
        ap bare_world is ∙ ap (λ (x : World). let y : World = record x { count = x.count + 1; phase = Between } in y) alike ∙ sym (ap bare_world is2)
    step_alike w v new other Over Over known rising alike plain plain2 charge kind (between, idle, lines, nothing, going, is) (between2, idle2, lines2, nothing2, going2, is2) =
        ap bare_world is ∙ ap (λ (x : World). closed x) alike ∙ sym (ap bare_world is2)
    step_alike w v new other m n known rising alike plain plain2 charge kind one two = absurd (let no : ⊥ = cc in no)

    -- ALL OF THEM
    runs_alike : (moves others : List Move) (w v last other : World) → IsKnown w → IsKnown v → AreAlike w v → AllByRecursion IsPlain moves → AllByRecursion IsPlain others → charges_of moves ≡ charges_of others
        → Run tariffs tariff rules rule w moves last → Run tariffs tariff rules rule v others other → last.over ≡ true → other.over ≡ true → last.text ≡ other.text
    runs_alike [] [] w v last other known known2 alike plain plain2 charges is is2 over over2 = ap (λ (x : World). x.text) is ∙ ap (λ (x : World). x.text) alike ∙ sym (ap (λ (x : World). x.text) is2)
    runs_alike [] (n ∷ others) w v last other known known2 alike plain plain2 charges is (mid, step, run) over over2 = absurd (by known2.over)
      where
        done : v.over ≡ true
        done = sym (ap (λ (x : World). x.over) alike) ∙ sym (ap (λ (x : World). x.over) is) ∙ over

        by : (v.over ≡ false) ⊎ IsAtEnd v → ⊥
        by (inl e) = false≢true (sym e ∙ done)
        by (inr ends) = at_end tariffs tariff rules rule v mid n ends step
    runs_alike (m ∷ moves) [] w v last other known known2 alike plain plain2 charges (mid, step, run) is2 over over2 = absurd (by known.over)
      where
        done : w.over ≡ true
        done = ap (λ (x : World). x.over) alike ∙ sym (ap (λ (x : World). x.over) is2) ∙ over2

        by : (w.over ≡ false) ⊎ IsAtEnd w → ⊥
        by (inl e) = false≢true (sym e ∙ done)
        by (inr ends) = at_end tariffs tariff rules rule w mid m ends step
    runs_alike (m ∷ moves) (n ∷ others) w v last other known known2 alike plain plain2 charges (mid, step, run) (mid2, step2, run2) over over2 =
        let kinds : kind_of m ≡ kind_of n = sym (kind_is w mid m step) ∙ next_alike w v alike ∙ kind_is v mid2 n step2 in
        let parts = parted m n moves others kinds charges in
        runs_alike moves others mid mid2 last other (known_on w mid m plain.0 known step) (known_on v mid2 n plain2.0 known2 step2)
        (step_alike w v mid mid2 m n known (known2.every 0).3.rising alike plain.0 plain2.0 parts.0 kinds step step2) plain.1 plain2.1 parts.1 run run2 over over2

  pub one_text : StepIsOne → OneText tariffs tariff rules rule
  one_text is_one lines bad s moves others last other weigh timed has run run2 over over2 plain plain2 charges =
      let known : IsKnown (start lines bad s) = record { every = λ n. (0, 0, 0, begun tariffs tariff rules rule n false lines bad s); has = has; timed = recursion_from_All IsTimed lines timed; over = inl refl } in
      runs_alike weigh is_one moves others (start lines bad s) (start lines bad s) last other known known refl (recursion_from_All IsPlain moves plain) (recursion_from_All IsPlain others plain2) charges run run2 over over2
