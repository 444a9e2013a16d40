-- What each move does to the tree.
-- serves: moves_change_the_tree_whole (moves, rising), start_has_the_tree, DumpLemmas, DumpedLemmas, OneTextLemmas, crates above
use Rattle.std.proofs.Common.{◌≡◌, ℕ, List, [], ◌∷◌, Option, Some, None, refl, sym, ◌∙◌, ap, inl, inr}
use Rattle.std.specs.Prelude.{not, ◌⊎◌, Bool, true, false, Result, Ok, Err, option_map, MatchBool, MatchOption, if◌then◌else◌}
use Rattle.std.specs.Fn.{Shared}
use denote.Ref.{Bor}
use Rattle.g_rules.specs.declared.tariff.Usage.{Usage}
use Rattle.g_rules.specs.declared.tariff.Charge.{Charge}
use Rattle.g_rules.specs.declared.rule.Standing.{Standing}
use Rattle.g_plain.specs.declared.calls.StoreCall.{StoreCall}
use Rattle.g_plain.specs.declared.faults.StoreFault.{StoreFault}
use Rattle.g_plain.specs.declared.faults.StoreFault.TheVariants.{Stopped, Running, NotStarted}
use Rattle.g_plain.specs.PlainTree.{Tree, formatted}
use Rattle.g_plain.specs.PlainStep.{plain_tree}
use Rattle.g_plain.specs.Programs.{Answer}
use Rattle.g_job.specs.State.{JobState}
use Rattle.g_rules.specs.declared.turn.Turn.{Turn}
use Rattle.g_rules.specs.declared.turn.Turn.TheVariants as turns
use Rattle.g_store_model.specs.State.{State, Holding, OpenDump, Dumped as DumpedTree}
use Rattle.g_store_model.specs.CallStep.{Outcome, Plain, DiscRead, TapeRead, Cut, down, no_longer_kept}
use Rattle.g_store_model.specs.DumpSteps.{Event, Stepped as DumpStepped, Going, Completed}
use Rattle.g_store_model.specs.Rising.{Starts, adopted, dump_adopted, Restores, restore_early}
use Rattle.g_store_model.specs.Laws.{tree_in, AnswersPlainly, DumpsKeepTree, RefusalsKeep, StopsLeave}
use Rattle.g_script.specs.declared.operator.Operator.{Operator}
use Rattle.g_script.specs.declared.operator.Operator.TheVariants as line
use Rattle.g_script.specs.declared.operator.Timed.{Timed}
use Rattle.g_run_model.specs.World.{World, job_of, shows}
use Rattle.std.specs.Prelude.{codes, ◌++◌}
use Rattle.std.specs.Fmt.{decimal}
use Rattle.g_monitor.specs.Parts.{full_text}
use Rattle.g_store_model.specs.Rising.{FormatStep, StartStep, RestoreStep}
use Rattle.g_run_model.specs.Texts.{started_text, tape_text, dump_text, processed_text}
use Rattle.g_run_model.specs.Events.{IsTold, IsOpening, IsMigration, IsProcessing}
use Rattle.g_run_model.specs.Lines.{LineGives, tells, up_with, now_stands, job_line, taken_in, job_refusal, line_refused, shut_with, at_terminal, changed_at, logged_in, login_refusal, open_at}
use Rattle.g_job.specs.Terminal.{logged_out, typed_to}
use Rattle.g_run_model.specs.Moves.{Move, TakeLine, Dumped, Begin, Answered, TurnOver, Ticked, Over, dump_told, turn_told}
use Rattle.g_plain.specs.PlainAnswers.{PlainOrDevice}
use Rattle.g_run_model.specs.Laws.{AllOrNothing, RisesOn, StartHasTheTree, RunLeaving, tree_behind, tree_by_turn, tree_by_call, tree_by_lines, tree_by_line, tree_of_dump}
use Rattle.g_run_model.proofs.AnswerLemmas.{call_plain}
use Rattle.g_run_model.proofs.StepLemmas.{tree_held}
use Rattle.g_run_model.proofs.ProcessedLemmas.{process_tree}

-- a store that goes down has the same tree
in_down : (h : Option Holding) → option_map (λ (k : Holding). k.tree) (option_map no_longer_kept h) ≡ option_map (λ (k : Holding). k.tree) h
in_down None = refl
in_down (Some k) = refl

tree_down : (s : State) → tree_in (down s) ≡ tree_in s
tree_down s = in_down s.holding

-- an event of one commit leaves the tree of before, or that of after
event_tree : {A : Type 0} (f : Option StoreFault) (reply : A) (s after : State) (r : Result A StoreFault) (new : State) → Event f reply s after r new
    → (tree_in new ≡ tree_in s) ⊎ (tree_in new ≡ tree_in after)
event_tree None reply s after r new (ok, is) = inr (ap tree_in is)
event_tree (Some Stopped) reply s after r new (err, inl is) = inl (ap tree_in is ∙ tree_down s)
event_tree (Some Stopped) reply s after r new (err, inr is) = inr (ap tree_in is ∙ tree_down after)
event_tree (Some fault) reply s after r new (err, is) = inl (ap tree_in is)

-- an event that leaves the tree unchanged preserves it
event_keeps : {A : Type 0} (f : Option StoreFault) (reply : A) (s after : State) (r : Result A StoreFault) (new : State) → tree_in after ≡ tree_in s → Event f reply s after r new → tree_in new ≡ tree_in s
event_keeps f reply s after r new same event = by (event_tree f reply s after r new event)
  where
    by : (tree_in new ≡ tree_in s) ⊎ (tree_in new ≡ tree_in after) → tree_in new ≡ tree_in s
    by (inl e) = e
    by (inr e) = e ∙ same

adopted_tree : (d : Option DumpedTree) (k : Holding) → (adopted d k).tree ≡ k.tree
adopted_tree None k = refl
adopted_tree (Some d) k = refl

start_keeps : (s : State) (h : Option Holding) (o : Outcome) (r : Result (Option ℕ) StoreFault) (new : State) → s.holding ≡ h → Starts s h o r new → tree_in new ≡ tree_in s
start_keeps s h DiscRead r new held (err, is) = ap tree_in is
start_keeps s None Plain r new held (err, is) = ap tree_in is
start_keeps s None TapeRead r new held (err, is) = ap tree_in is
start_keeps s None Cut r new held (err, is) = ap tree_in is
start_keeps s (Some k) Plain r new held event = event_keeps _ _ s _ r new (ap Some (adopted_tree (dump_adopted s k) k) ∙ sym (tree_held s k held)) event
start_keeps s (Some k) TapeRead r new held event = event_keeps _ _ s _ r new (ap Some (adopted_tree (dump_adopted s k) k) ∙ sym (tree_held s k held)) event
start_keeps s (Some k) Cut r new held event = event_keeps _ _ s _ r new (ap Some (adopted_tree (dump_adopted s k) k) ∙ sym (tree_held s k held)) event

restores_tree : (s : State) (d : Option DumpedTree) (o : Outcome) (r : Result ℕ StoreFault) (new : State) → Restores s d o r new
    → (tree_in new ≡ tree_in s) ⊎ (tree_in new ≡ tree_of_dump d (tree_in s))
restores_tree s None o r new (lost, is) = inl (ap tree_in is)
restores_tree s (Some d) o r new event = event_tree _ _ s _ r new event

restore_tree : (s : State) (f : Option StoreFault) (o : Outcome) (r : Result ℕ StoreFault) (new : State) → MatchOption f (Restores s s.dumped o r new) (λ fault. (r ≡ Err fault) × (new ≡ s))
    → (tree_in new ≡ tree_in s) ⊎ (tree_in new ≡ tree_of_dump s.dumped (tree_in s))
restore_tree s None o r new step = restores_tree s s.dumped o r new step
restore_tree s (Some fault) o r new (err, is) = inl (ap tree_in is)

-- the world's store after what is printed
pub told_up : {R : Type 0} (said : R → List ℕ) (r : Result R StoreFault) (s : State) (w : World) → (tells (λ x t v. up_with (said x) t v) r s w).store ≡ s
told_up said (Ok x) s w = refl
told_up said (Err Stopped) s w = refl
told_up said (Err fault) s w = refl

pub told_stands : {R : Type 0} (said : R → List ℕ) (r : Result R StoreFault) (s : State) (w : World) → (tells (λ x t v. now_stands (said x) t v) r s w).store ≡ s
told_stands said (Ok x) s w = refl
told_stands said (Err Stopped) s w = refl
told_stands said (Err fault) s w = refl

pub dump_store : (n : ℕ) (r : Result DumpStepped StoreFault) (s : State) (w : World) → (dump_told n r s w).store ≡ s
dump_store n (Ok Going) s w = refl
dump_store n (Ok (Completed m)) s w = refl
dump_store n (Err Stopped) s w = refl
dump_store n (Err fault) s w = refl

pub turn_store : (j : JobState) (t : Turn) (w : World) → (turn_told j t w).store ≡ w.store
turn_store j turns.Broken w = refl
turn_store j (turns.Wants serial) w = refl
turn_store j (turns.Ran units money) w = refl
turn_store j (turns.Ended units money) w = refl

pub job_store : (o : Outcome) (refusal : Option (List ℕ)) (taken w : World) → taken.store ≡ w.store → (job_line refusal taken w).store ≡ w.store
job_store o None taken w e = e
job_store o (Some text) taken w e = refl

-- a line leaves the tree, or installs its own
abbrev pub LineLeaves : Operator → World → World → Type 0
LineLeaves what w new = (tree_in new.store ≡ tree_in w.store) ⊎ (tree_in new.store ≡ (if w.store.up then tree_in w.store else tree_by_line what w.store))

stays : (w new v : World) → new ≡ v → v.store ≡ w.store → tree_in new.store ≡ tree_in w.store
stays w new v is same = ap (λ (x : World). tree_in x.store) is ∙ ap tree_in same

-- after a line that called the store, and left it at s
goes : (w new v : World) (s : State) → new ≡ v → v.store ≡ s → tree_in new.store ≡ tree_in s
goes w new v s is same = ap (λ (x : World). tree_in x.store) is ∙ ap tree_in same

-- a line of a system that is down installs its tree
puts : (what : Operator) (w new : World) (t : Option Tree) → w.store.up ≡ false → (t ≡ tree_in w.store) ⊎ (t ≡ tree_by_line what w.store) → tree_in new.store ≡ t → LineLeaves what w new
puts what w new t e (inl same) is = inl (is ∙ same)
puts what w new t e (inr put) is = inr (is ∙ put ∙ sym (ap (λ (b : Bool). if b then tree_in w.store else tree_by_line what w.store) e))

rises_at : {R : Type 0} (Does : State → Outcome → Result R StoreFault → State → Type 0) (said : R → List ℕ) (o : Outcome) (what : Operator) (w new : World)
    → ((r : Result R StoreFault) (s : State) → Does w.store o r s → (tree_in s ≡ tree_in w.store) ⊎ (tree_in s ≡ tree_by_line what w.store))
    → (b : Bool) → w.store.up ≡ b
    → MatchBool (not b) ((r : Result R StoreFault) × (s : State) × (Does w.store o r s × IsTold o r) × (new ≡ tells (λ x t v. up_with (said x) t v) r s w)) ((o ≡ Plain) × (new ≡ line_refused Running w))
    → LineLeaves what w new
rises_at Does said o what w new leaves true e (plain, is) = inl (stays w new (line_refused Running w) is refl)
rises_at Does said o what w new leaves false e (r, s, (does, says_so), is) =
    puts what w new (tree_in s) e (leaves r s does) (goes w new (tells (λ x t v. up_with (said x) t v) r s w) s is (told_up said r s w))

needs_at : {R : Type 0} (Does : Result R StoreFault → State → Type 0) (said : R → List ℕ) (o : Outcome) (what : Operator) (w new : World)
    → ((r : Result R StoreFault) (s : State) → Does r s → tree_in s ≡ tree_in w.store) → (b : Bool)
    → MatchBool b ((r : Result R StoreFault) × (s : State) × Does r s × (new ≡ tells (λ x t v. now_stands (said x) t v) r s w)) ((o ≡ Plain) × (new ≡ line_refused NotStarted w))
    → LineLeaves what w new
needs_at Does said o what w new keeps true (r, s, does, is) = inl (goes w new (tells (λ x t v. now_stands (said x) t v) r s w) s is (told_stands said r s w) ∙ keeps r s does)
needs_at Does said o what w new keeps false (plain, is) = inl (stays w new (line_refused NotStarted w) is refl)

shut_at : (o : Outcome) (d : Option OpenDump) (w new : World) → new ≡ shut_with d w → tree_in new.store ≡ tree_in w.store
shut_at o (Some dump) w new is = stays w new _ is refl
shut_at o None w new is = goes w new _ (down w.store) is refl ∙ tree_down w.store

shut_by : (o : Outcome) (w new : World) (b : Bool) → new ≡ (if b then shut_with w.store.open_dump w else line_refused NotStarted w) → tree_in new.store ≡ tree_in w.store
shut_by o w new true shuts = shut_at o w.store.open_dump w new shuts
shut_by o w new false is = stays w new (line_refused NotStarted w) is refl

pub job_by : (o : Outcome) (name user : List ℕ) (time money : ℕ) (lines : List (List ℕ)) (w : World) (b : Bool)
    → (if b then job_line (job_refusal w user time money) (taken_in name user time money lines w) w else line_refused NotStarted w).store ≡ w.store
job_by o name user time money lines w true = job_store o (job_refusal w user time money) (taken_in name user time money lines w) w refl
job_by o name user time money lines w false = refl

pub login_by : (o : Outcome) (t : ℕ) (user : List ℕ) (time : ℕ) (w : World) (b : Bool)
    → (if b then job_line (login_refusal w t user time) (logged_in t user time w) w else line_refused NotStarted w).store ≡ w.store
login_by o t user time w true = job_store o (login_refusal w t user time) (logged_in t user time w) w refl
login_by o t user time w false = refl

changed_store : (t : ℕ) (change : JobState → JobState) (j : Option JobState) (w : World) → (changed_at t change j w).store ≡ w.store
changed_store t change None w = refl
changed_store t change (Some j) w = refl

pub typed_by : (t : ℕ) (change : JobState → JobState) (w : World) (b : Bool) → (if b then at_terminal t change w else line_refused NotStarted w).store ≡ w.store
typed_by t change w true = changed_store t change (open_at t w.jobs) w
typed_by t change w false = refl

-- A LINE leaves the tree, or installs its own
line_leaves : (o : Outcome) (what : Operator) (w new : World) → LineGives o what w new → LineLeaves what w new
line_leaves o line.Format w new gives = rises_at FormatStep (λ r. codes "FORMATTED") o line.Format w new (λ r s does. event_tree _ _ w.store _ r s does) w.store.up refl gives
line_leaves o line.Start w new gives = rises_at StartStep started_text o line.Start w new (λ r s does. inl (start_keeps w.store w.store.holding o r s refl does)) w.store.up refl gives
line_leaves o line.Restore w new gives =
    rises_at RestoreStep (λ n. codes "RESTORED FROM DUMP " ++ decimal n) o line.Restore w new (λ r s does. restore_tree w.store (restore_early w.store o) o r s does) w.store.up refl gives
line_leaves o line.Shut w new (plain, gives) = inl (shut_by o w new w.store.up gives)
line_leaves o (line.Job name user time money lines) w new (plain, is) = inl (stays w new _ is (job_by o name user time money lines w w.store.up))
line_leaves o (line.Mount serial) w new (r, s, (plain, does), is) =
    inl (goes w new _ s is (told_stands (λ _. tape_text serial (codes "MOUNTED")) r s w) ∙ event_keeps _ _ w.store _ r s refl does)
line_leaves o (line.Unmount serial) w new (r, s, (plain, does), is) =
    inl (goes w new _ s is (told_stands (λ _. tape_text serial (codes "UNMOUNTED")) r s w) ∙ event_keeps _ _ w.store _ r s refl does)
line_leaves o (line.Dump serial) w new gives =
    needs_at (λ r s. IsOpening w.store serial o r s) (λ n. dump_text n (codes "OPENED")) o (line.Dump serial) w new
    (λ r s (k, holds, (places, noted, event), says_so). event_keeps _ _ w.store _ r s (sym (tree_held w.store k holds)) event) w.store.up gives
line_leaves o (line.Process serial) w new gives =
    needs_at (λ r s. IsProcessing w.store serial o r s) (processed_text serial) o (line.Process serial) w new
    (λ r s (k, holds, step, says_so). process_tree w.store k serial o r s holds step) w.store.up gives
line_leaves o (line.Migrate path) w new gives =
    needs_at (λ r s. IsMigration w.store path o r s) (λ full. codes "MIGRATED " ++ full_text full) o (line.Migrate path) w new
    (λ r s (k, holds, event, says_so). event_keeps _ _ w.store _ r s (sym (tree_held w.store k holds)) event) w.store.up gives
line_leaves o (line.StopDisc k) w new (plain, is) = inl (stays w new _ is refl)
line_leaves o (line.StopTape k) w new (plain, is) = inl (stays w new _ is refl)
line_leaves o (line.Login t user time) w new (plain, is) = inl (stays w new _ is (login_by o t user time w w.store.up))
line_leaves o (line.Typed t text) w new (plain, is) = inl (stays w new _ is (typed_by t (typed_to text) w w.store.up))
line_leaves o (line.Logout t) w new (plain, is) = inl (stays w new _ is (typed_by t logged_out w w.store.up))

-- one of two trees: the first one, if it equals the second; and still one of them after a move that leaves the tree
pub either_first : (t u v : Option Tree) → (u ≡ t) ⊎ (u ≡ v) → v ≡ t → u ≡ t
either_first t u v (inl e) same = e
either_first t u v (inr e) same = e ∙ same

pub either_still : (t u v x : Option Tree) → x ≡ u → (u ≡ t) ⊎ (u ≡ v) → (x ≡ t) ⊎ (x ≡ v)
either_still t u v x same (inl e) = inl (same ∙ e)
either_still t u v x same (inr e) = inr (same ∙ e)

module _ {F U : Type 0} (tariffs : Shared F (Bor Usage × Unit {0}) Charge) (tariff : F) (rules : Shared U (Bor Standing × Unit {0}) ℕ) (rule : U)
    (plainly : AnswersPlainly) (keep : RefusalsKeep) (stops : StopsLeave) (dumps : DumpsKeepTree) where
  answered : (w new : World) (o : Outcome) (number : ℕ) (call : StoreCall) (job : JobState) (k : Holding) (after : Tree) (answer : Answer) → w.store.holding ≡ Some k → job_of w number ≡ Some job
      → tree_by_turn w w.turn ≡ tree_by_call (tree_in w.store) (job_of w number) call → PlainOrDevice k.tree job.user call answer after → tree_in new.store ≡ Some after
      → (tree_in new.store ≡ tree_in w.store) ⊎ (tree_in new.store ≡ tree_behind w (Answered o))
  answered w new o number call job k after answer held here turn plain is = by plain
    where
      old : Some k.tree ≡ tree_in w.store
      old = sym (tree_held w.store k held)

      behind : Some (plain_tree k.tree job.user call) ≡ tree_behind w (Answered o)
      behind = sym (turn ∙ ap (λ (j : Option JobState). tree_by_call (tree_in w.store) j call) here ∙ ap (λ (t : Option Tree). tree_by_call t (Some job) call) (tree_held w.store k held))

      by : PlainOrDevice k.tree job.user call answer after → (tree_in new.store ≡ tree_in w.store) ⊎ (tree_in new.store ≡ tree_behind w (Answered o))
      by (inl (e, same)) = inr (is ∙ ap Some same ∙ behind)
      by (inr (inl (device, same))) = inl (is ∙ ap Some same ∙ old)
      by (inr (inr (stop, inl same))) = inl (is ∙ ap Some same ∙ old)
      by (inr (inr (stop, inr same))) = inr (is ∙ ap Some same ∙ behind)

  pub all_or_nothing : AllOrNothing tariffs tariff rules rule
  all_or_nothing w new (TakeLine tape o) (next, rest, lines, between, idle, due, is_tape, gives) = by (line_leaves o next.what (record w { lines = rest }) new gives)
    where
      by : LineLeaves next.what (record w { lines = rest }) new → (tree_in new.store ≡ tree_in w.store) ⊎ (tree_in new.store ≡ tree_behind w (TakeLine tape o))
      by (inl e) = inl e
      by (inr e) = inr (e ∙ sym (ap (λ (ls : List Timed). tree_by_lines ls w.store) lines))
  all_or_nothing w new (Dumped o) (between, idle, undue, dumping, (r, s, (k, d, holds, opened, step, says_so), is)) =
      inl (goes w new _ s is (dump_store _ r s w) ∙ dumps w.store k d o r s holds step ∙ sym (tree_held w.store k holds))
  all_or_nothing w new (Begin number) (idle, undue, ready, (place, job, chosen, there, number_is, is)) = inl (stays w new _ is refl)
  all_or_nothing w new (Answered o) (number, call, more, job, answer, s, asks, here, (k, holds, step, says_so), real, is) =
      let done = call_plain plainly keep stops w.store k job.user call o answer s holds step in
      answered w new o number call job k done.0 answer holds here (ap (tree_by_turn w) asks) done.1 (ap (λ (x : World). tree_in x.store) is ∙ done.2)
  all_or_nothing w new (TurnOver number charge) (work, job, turn, after, asks, here, priced, ends, is) = inl (stays w new _ is (turn_store after turn (shows job after w)))
  all_or_nothing w new Ticked (idle, phase, is) = inl (stays w new _ is refl)
  all_or_nothing w new Over (between, idle, lines, nothing, over, is) = inl (stays w new _ is refl)

  leaving : (w : World) (moves : List Move) (new : World) → RunLeaving tariffs tariff rules rule w moves new → tree_in new.store ≡ tree_in w.store
  leaving w [] new run = ap (λ (x : World). tree_in x.store) run
  leaving w (move ∷ moves) new (mid, quiet, step, run) = leaving mid moves new run ∙ either_first (tree_in w.store) (tree_in mid.store) (tree_behind w move) (all_or_nothing w mid move step) quiet

  -- THE HEADLINE'S SECOND PART
  pub start_has_the_tree : StartHasTheTree tariffs tariff rules rule
  start_has_the_tree before cut up move moves was_up step is_down run =
      either_still (tree_in before.store) (tree_in cut.store) (tree_behind before move) (tree_in up.store) (leaving cut moves up run) (all_or_nothing before cut move step)

not_up : {P : Type 0} (s new : State) → s.up ≡ false → new ≡ s → new.up ≡ true → P
not_up s new low is up = let both : true ≡ false = sym up ∙ ap (λ (x : State). x.up) is ∙ low in absurd (let no : ⊥ = cc in no)

event_up : {A : Type 0} (f : Option StoreFault) (reply : A) (s after : State) (r : Result A StoreFault) (new : State) → s.up ≡ false → new.up ≡ true → Event f reply s after r new → tree_in new ≡ tree_in after
event_up None reply s after r new low up (ok, is) = ap tree_in is
event_up (Some Stopped) reply s after r new low up (err, inl is) = not_up (down s) new refl is up
event_up (Some Stopped) reply s after r new low up (err, inr is) = not_up (down after) new refl is up
event_up (Some fault) reply s after r new low up (err, is) = not_up s new low is up

restores_up : (s : State) (d : Option DumpedTree) (o : Outcome) (r : Result ℕ StoreFault) (new : State) → s.up ≡ false → new.up ≡ true → Restores s d o r new → tree_in new ≡ tree_of_dump d (tree_in s)
restores_up s None o r new low up (lost, is) = not_up s new low is up
restores_up s (Some d) o r new low up event = event_up _ _ s _ r new low up event

restore_up : (s : State) (f : Option StoreFault) (o : Outcome) (r : Result ℕ StoreFault) (new : State) → s.up ≡ false → new.up ≡ true → MatchOption f (Restores s s.dumped o r new) (λ fault. (r ≡ Err fault) × (new ≡ s))
    → tree_in new ≡ tree_of_dump s.dumped (tree_in s)
restore_up s None o r new low up step = restores_up s s.dumped o r new low up step
restore_up s (Some fault) o r new low up (err, is) = not_up s new low is up

rises_up : {R : Type 0} (Does : State → Outcome → Result R StoreFault → State → Type 0) (said : R → List ℕ) (o : Outcome) (w new : World) (t : Option Tree) → new.store.up ≡ true
    → ((r : Result R StoreFault) (s : State) → s.up ≡ true → Does w.store o r s → tree_in s ≡ t)
    → (b : Bool) → w.store.up ≡ b → b ≡ false
    → MatchBool (not b) ((r : Result R StoreFault) × (s : State) × (Does w.store o r s × IsTold o r) × (new ≡ tells (λ x t v. up_with (said x) t v) r s w)) ((o ≡ Plain) × (new ≡ line_refused Running w))
    → tree_in new.store ≡ t
rises_up Does said o w new t up leaves true e low gives = absurd (let no : ⊥ = cc in no)
rises_up Does said o w new t up leaves false e low (r, s, (does, says_so), is) =
    let at_s : new.store ≡ s = ap (λ (x : World). x.store) is ∙ told_up said r s w in
    ap tree_in at_s ∙ leaves r s (sym (ap (λ (x : State). x.up) at_s) ∙ up) does

-- a line that brings the system up leaves exactly the right tree
line_up : (o : Outcome) (what : Operator) (w new : World) → w.store.up ≡ false → new.store.up ≡ true → LineGives o what w new → tree_in new.store ≡ tree_by_line what w.store
line_up o line.Format w new low up gives = rises_up FormatStep (λ r. codes "FORMATTED") o w new (Some formatted) up (λ r s s_up does. event_up _ _ w.store _ r s low s_up does) w.store.up refl low gives
line_up o line.Restore w new low up gives =
    rises_up RestoreStep (λ n. codes "RESTORED FROM DUMP " ++ decimal n) o w new (tree_of_dump w.store.dumped (tree_in w.store)) up (λ r s s_up does. restore_up w.store (restore_early w.store o) o r s low s_up does) w.store.up refl low gives
line_up o what w new low up gives = by (line_leaves o what w new gives)
  where
    as_before : (b : Bool) (t : Option Tree) → (if b then t else t) ≡ t
    as_before true t = refl
    as_before false t = refl

    by : LineLeaves what w new → tree_in new.store ≡ tree_by_line what w.store
    by (inl e) = e
    by (inr e) = e ∙ as_before w.store.up (tree_in w.store)

module _ {F U : Type 0} (tariffs : Shared F (Bor Usage × Unit {0}) Charge) (tariff : F) (rules : Shared U (Bor Standing × Unit {0}) ℕ) (rule : U) where
  pub rises_on : RisesOn tariffs tariff rules rule
  rises_on w new tape o (next, rest, lines, between, idle, due, is_tape, gives) low up =
      line_up o next.what (record w { lines = rest }) new low up gives
      ∙ sym (ap (λ (b : Bool). if b then tree_in w.store else tree_by_line next.what w.store) low)
      ∙ sym (ap (λ (ls : List Timed). tree_by_lines ls w.store) lines)
