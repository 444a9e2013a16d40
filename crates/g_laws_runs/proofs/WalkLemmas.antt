-- What every event of the store preserves, by its outcome, every move of a run preserves.
-- serves: CompleteLemmas, FilestoreLemmas, LostLemmas, crates above
use Rattle.std.proofs.Common.{◌≡◌, ℕ, List, [], ◌++◌, Option, Some, None, refl, sym, ◌∙◌, ap, subst}
use Rattle.std.specs.Prelude.{if◌then◌else◌, not, Bool, true, false, Result, MatchBool, codes}
use Rattle.std.specs.Fmt.{decimal}
use Rattle.std.specs.Fn.{Shared}
use denote.Ref.{Bor}
use Rattle.g_rules.specs.declared.tariff.Charge.{Charge}
use Rattle.g_rules.specs.declared.tariff.Usage.{Usage}
use Rattle.g_rules.specs.declared.rule.Standing.{Standing}
use Rattle.g_job.specs.Terminal.{logged_out, typed_to}
use Rattle.g_monitor.specs.Parts.{full_text}
use Rattle.g_name.specs.declared.full.Full.{Full}
use Rattle.g_plain.specs.declared.calls.StoreCall.{StoreCall}
use Rattle.g_plain.specs.declared.calls.StoreReply.{StoreReply}
use Rattle.g_plain.specs.declared.faults.StoreFault.{StoreFault}
use Rattle.g_plain.specs.declared.faults.StoreFault.TheVariants.{NotStarted, Running}
use Rattle.g_plain.specs.PlainTree.{input_name}
use Rattle.g_script.specs.declared.operator.Operator.{Operator}
use Rattle.g_script.specs.declared.operator.Operator.TheVariants as line
use Rattle.g_store_model.specs.CallStep.{CallStep, Outcome, Plain, down}
use Rattle.g_store_model.specs.DumpSteps.{DumpStep, MigrateStep, MountStep, OpenStep, Stepped, UnmountStep}
use Rattle.g_store_model.specs.Process.{ProcessStep}
use Rattle.g_store_model.specs.Rising.{FormatStep, RestoreStep, StartStep}
use Rattle.g_store_model.specs.State.{Holding, OpenDump, State}
use Rattle.g_run_model.specs.Events.{IsMigration, IsOpening, IsProcessing, IsTold}
use Rattle.g_run_model.specs.Lines.{LineGives, shut_with, line_refused, now_stands, tells, up_with}
use Rattle.g_run_model.specs.Moves.{Answered, Begin, Dumped, Move, Over, Step, TakeLine, Ticked, TurnOver, outcome_of}
use Rattle.g_run_model.specs.Texts.{dump_text, processed_text, started_text, tape_text}
use Rattle.g_run_model.specs.World.{World, shows}
use Rattle.g_run_model.proofs.TreeLemmas.{dump_store, job_by, login_by, told_stands, told_up, turn_store, typed_by}

-- what is preserved between a state and the next, in each event except a step of the open dump
pub record AreKept (K : Outcome → State → State → Type 0) : Type 0 where
  pub itself : (s : State) → K Plain s s
  pub format : (s : State) (o : Outcome) (r : Result (Unit {0}) StoreFault) (new : State) → s.up ≡ false → FormatStep s o r new → IsTold o r → K o s new
  pub start : (s : State) (o : Outcome) (r : Result (Option ℕ) StoreFault) (new : State) → s.up ≡ false → StartStep s o r new → IsTold o r → K o s new
  pub restore : (s : State) (o : Outcome) (r : Result ℕ StoreFault) (new : State) → s.up ≡ false → RestoreStep s o r new → IsTold o r → K o s new
  pub shut : (s : State) → s.open_dump ≡ None → K Plain s (down s)
  pub mount : (s : State) (serial : ℕ) (r : Result (Unit {0}) StoreFault) (new : State) → MountStep s serial r new → K Plain s new
  pub unmount : (s : State) (serial : ℕ) (r : Result (Unit {0}) StoreFault) (new : State) → UnmountStep s serial r new → K Plain s new
  pub opening : (s : State) (k : Holding) (serial : ℕ) (o : Outcome) (r : Result ℕ StoreFault) (new : State) → s.up ≡ true → s.holding ≡ Some k → OpenStep s k serial o r new → IsTold o r → K o s new
  pub process : (s : State) (k : Holding) (serial : ℕ) (o : Outcome) (r : Result ℕ StoreFault) (new : State) → s.up ≡ true → s.holding ≡ Some k → ProcessStep s k serial o r new → IsTold o r → K o s new
  pub migrate : (s : State) (k : Holding) (user : Option (List ℕ)) (full : Full) (o : Outcome) (r : Result Full StoreFault) (new : State) → s.holding ≡ Some k → MigrateStep s k user full o r new → IsTold o r → K o s new
  pub call : (s : State) (k : Holding) (who : List ℕ) (call : StoreCall) (o : Outcome) (answer : Result StoreReply StoreFault) (new : State) → s.holding ≡ Some k → CallStep s k who call o answer new → IsTold o answer
      → K o s new

-- a move that is no step of the open dump
abbrev pub IsQuiet : Move → Type 0
IsQuiet (Dumped o) = ⊥
IsQuiet move = Unit {0}

module _ (K : Outcome → State → State → Type 0) (kept : AreKept K) where
  -- for the world's store after an event that left it at s
  told : (o : Outcome) (w new v : World) (s : State) → new ≡ v → v.store ≡ s → K o w.store s → K o w.store new.store
  told o w new v s is same it = subst (λ (x : State). K o w.store x) (sym (ap (λ (x : World). x.store) is ∙ same)) it

  still : (o : Outcome) (w new v : World) → o ≡ Plain → new ≡ v → v.store ≡ w.store → K o w.store new.store
  still o w new v plain is same = told o w new v w.store is same (subst (λ (x : Outcome). K x w.store w.store) (sym plain) (kept.itself w.store))

  rises_kept : {R : Type 0} (Does : State → Outcome → Result R StoreFault → State → Type 0) (said : R → List ℕ) (o : Outcome) (w new : World)
      → ((r : Result R StoreFault) (s : State) → w.store.up ≡ false → Does w.store o r s → IsTold o r → K o w.store s) → (b : Bool) → w.store.up ≡ b
      → MatchBool (not b) ((r : Result R StoreFault) × (s : State) × (Does w.store o r s × IsTold o r) × (new ≡ tells (λ x t v. up_with (said x) t v) r s w)) ((o ≡ Plain) × (new ≡ line_refused Running w))
      → K o w.store new.store
  rises_kept Does said o w new leaves true e (plain, is) = still o w new (line_refused Running w) plain is refl
  rises_kept Does said o w new leaves false e (r, s, (does, says_so), is) = told o w new (tells (λ x t v. up_with (said x) t v) r s w) s is (told_up said r s w) (leaves r s e does says_so)

  needs_kept : {R : Type 0} (Does : Result R StoreFault → State → Type 0) (said : R → List ℕ) (o : Outcome) (w new : World)
      → ((r : Result R StoreFault) (s : State) → w.store.up ≡ true → Does r s → K o w.store s) → (b : Bool) → w.store.up ≡ b
      → MatchBool b ((r : Result R StoreFault) × (s : State) × Does r s × (new ≡ tells (λ x t v. now_stands (said x) t v) r s w)) ((o ≡ Plain) × (new ≡ line_refused NotStarted w))
      → K o w.store new.store
  needs_kept Does said o w new leaves true e (r, s, does, is) = told o w new (tells (λ x t v. now_stands (said x) t v) r s w) s is (told_stands said r s w) (leaves r s e does)
  needs_kept Does said o w new leaves false e (plain, is) = still o w new (line_refused NotStarted w) plain is refl

  shut_kept : (o : Outcome) (d : Option OpenDump) (w new : World) → o ≡ Plain → w.store.open_dump ≡ d → new ≡ shut_with d w → K o w.store new.store
  shut_kept o (Some dump) w new plain e is = still o w new _ plain is refl
  shut_kept o None w new plain e is =
      subst (λ (x : Outcome). K x w.store new.store) (sym plain) (subst (λ (x : State). K Plain w.store x) (sym (ap (λ (x : World). x.store) is)) (kept.shut w.store e))

  shut_by : (o : Outcome) (w new : World) (b : Bool) → o ≡ Plain → new ≡ (if b then shut_with w.store.open_dump w else line_refused NotStarted w) → K o w.store new.store
  shut_by o w new true plain shuts = shut_kept o w.store.open_dump w new plain refl shuts
  shut_by o w new false plain is = still o w new (line_refused NotStarted w) plain is refl

  as_plain : (o : Outcome) (s new : State) → o ≡ Plain → K Plain s new → K o s new
  as_plain o s new plain it = subst (λ (x : Outcome). K x s new) (sym plain) it

  -- A LINE
  line_kept : (o : Outcome) (what : Operator) (w new : World) → LineGives o what w new → K o w.store new.store
  line_kept o line.Format w new gives = rises_kept FormatStep (λ r. codes "FORMATTED") o w new (λ r s low does so. kept.format w.store o r s low does so) w.store.up refl gives
  line_kept o line.Start w new gives = rises_kept StartStep started_text o w new (λ r s low does so. kept.start w.store o r s low does so) w.store.up refl gives
  line_kept o line.Restore w new gives =
      rises_kept RestoreStep (λ n. codes "RESTORED FROM DUMP " ++ decimal n) o w new (λ r s low does so. kept.restore w.store o r s low does so) w.store.up refl gives
  line_kept o line.Shut w new (plain, gives) = shut_by o w new w.store.up plain gives
  line_kept o (line.Job name user time money lines) w new (plain, is) = still o w new _ plain is (job_by o name user time money lines w w.store.up)
  line_kept o (line.Mount serial) w new (r, s, (plain, does), is) =
      told o w new _ s is (told_stands (λ _. tape_text serial (codes "MOUNTED")) r s w) (as_plain o w.store s plain (kept.mount w.store serial r s does))
  line_kept o (line.Unmount serial) w new (r, s, (plain, does), is) =
      told o w new _ s is (told_stands (λ _. tape_text serial (codes "UNMOUNTED")) r s w) (as_plain o w.store s plain (kept.unmount w.store serial r s does))
  line_kept o (line.Dump serial) w new gives =
      needs_kept (λ r s. IsOpening w.store serial o r s) (λ n. dump_text n (codes "OPENED")) o w new (λ r s up (k, holds, does, so). kept.opening w.store k serial o r s up holds does so) w.store.up refl gives
  line_kept o (line.Process serial) w new gives =
      needs_kept (λ r s. IsProcessing w.store serial o r s) (processed_text serial) o w new (λ r s up (k, holds, does, so). kept.process w.store k serial o r s up holds does so) w.store.up refl gives
  line_kept o (line.Migrate path) w new gives =
      needs_kept (λ r s. IsMigration w.store path o r s) (λ full. codes "MIGRATED " ++ full_text full) o w new
      (λ r s up (k, holds, does, so). kept.migrate w.store k path.user (input_name k.tree [] path) o r s holds does so) w.store.up refl gives
  line_kept o (line.StopDisc k) w new (plain, is) = still o w new _ plain is refl
  line_kept o (line.StopTape k) w new (plain, is) = still o w new _ plain is refl
  line_kept o (line.Login t user time) w new (plain, is) = still o w new _ plain is (login_by o t user time w w.store.up)
  line_kept o (line.Typed t text) w new (plain, is) = still o w new _ plain is (typed_by t (typed_to text) w w.store.up)
  line_kept o (line.Logout t) w new (plain, is) = still o w new _ plain is (typed_by t logged_out w w.store.up)

  module _ {F U : Type 0} (tariffs : Shared F (Bor Usage × Unit {0}) Charge) (tariff : F) (rules : Shared U (Bor Standing × Unit {0}) ℕ) (rule : U) where
    -- A MOVE that is no step of the open dump
    pub quiet_kept : (w new : World) (move : Move) → IsQuiet move → Step tariffs tariff rules rule w move new → K (outcome_of move) w.store new.store
    quiet_kept w new (TakeLine tape o) quiet (next, rest, lines, between, idle, due, is_tape, gives) = line_kept o next.what (record w { lines = rest }) new gives
    quiet_kept w new (Dumped o) quiet step = absurd quiet
    quiet_kept w new (Begin number) quiet (idle, undue, ready, (place, job, chosen, there, number_is, is)) = still Plain w new _ refl is refl
    quiet_kept w new (Answered o) quiet (number, call, more, job, answer, s, asks, here, (k, holds, step, so), real, is) =
        told o w new _ s is refl (kept.call w.store k job.user call o answer s holds step so)
    quiet_kept w new (TurnOver number charge) quiet (work, job, turn, after, asks, here, priced, ends, is) = still Plain w new _ refl is (turn_store after turn (shows job after w))
    quiet_kept w new Ticked quiet (idle, phase, is) = still Plain w new _ refl is refl
    quiet_kept w new Over quiet (between, idle, lines, nothing, over, is) = still Plain w new _ refl is refl

    -- ANY MOVE, if a step of the open dump keeps it too
    pub move_kept : ((s : State) (k : Holding) (d : OpenDump) (o : Outcome) (r : Result Stepped StoreFault) (new : State) → s.holding ≡ Some k → s.open_dump ≡ Some d → DumpStep s k d o r new → K o s new)
        → (w new : World) (move : Move) → Step tariffs tariff rules rule w move new → K (outcome_of move) w.store new.store
    move_kept dumped w new (Dumped o) step =
        let (between, idle, undue, dumping, made) = step in
        let (r, s, stepped, is) = made in
        let (k, d, holds, there, one, so) = stepped in
        told o w new _ s is (dump_store _ r s w) (dumped w.store k d o r s holds there one)
    move_kept dumped w new move step = quiet_kept w new move tt step
