-- A line of the operator, with other lines after it.
-- serves: AfterLemmas, ScriptLemmas
use Rattle.std.proofs.Common.{◌≡◌, ◌++◌, ℕ, Bool, true, false, not, List, Option, Some, None, Result, Ok, Err, MatchBool, codes, if◌then◌else◌, refl, sym, ◌∙◌, ap, subst}
use Rattle.std.specs.Fmt.{decimal}
use Rattle.g_job.specs.State.{JobState}
use Rattle.g_job.specs.Terminal.{logged_out, typed_to}
use Rattle.g_monitor.specs.Parts.{full_text}
use Rattle.g_plain.specs.declared.faults.StoreFault.{StoreFault}
use Rattle.g_plain.specs.declared.faults.StoreFault.TheVariants.{NotStarted, Running, Stopped}
use Rattle.g_script.specs.declared.operator.Operator.{Operator}
use Rattle.g_script.specs.declared.operator.Operator.TheVariants as line
use Rattle.g_script.specs.declared.operator.Timed.{Timed}
use Rattle.g_store_model.specs.CallStep.{Outcome, Plain}
use Rattle.g_store_model.specs.Rising.{FormatStep, RestoreStep, StartStep}
use Rattle.g_store_model.specs.State.{OpenDump, State}
use Rattle.g_run_model.specs.Events.{IsMigration, IsMounting, IsOpening, IsProcessing, IsTold, IsUnmounting}
use Rattle.g_run_model.specs.Lines.{LineGives, at_terminal, changed_at, job_line, job_refusal, line_refused, logged_in, login_refusal, now_stands, open_at, shut_with, taken_in, tells, up_with}
use Rattle.g_run_model.specs.Texts.{dump_text, processed_text, started_text, tape_text}
use Rattle.g_run_model.specs.World.{World}
use Rattle.g_laws_sessions.specs.Early.{with_lines}

-- what a line leaves
pub record Kept (w new : World) : Type 0 where
  pub lines : new.lines ≡ w.lines
  pub over : new.over ≡ w.over
  pub count : new.count ≡ w.count
  pub phase : new.phase ≡ w.phase

-- and it is the same line where other lines are left
pub record Lined (o : Outcome) (what : Operator) (w new : World) : Type 0 where
  pub kept : Kept w new
  pub gives : (lines : List Timed) → LineGives o what (with_lines lines w) (with_lines lines new)

kept_as : (w new v : World) → new ≡ v → Kept w v → Kept w new
kept_as w new v is kept = subst (λ (x : World). Kept w x) (sym is) kept

to_lines : (lines : List Timed) (new v other : World) → new ≡ v → with_lines lines v ≡ other → with_lines lines new ≡ other
to_lines lines new v other is same = ap (λ (x : World). with_lines lines x) is ∙ same

up_kept : {R : Type 0} (said : R → List ℕ) (r : Result R StoreFault) (s : State) (w : World) → Kept w (tells (λ x t v. up_with (said x) t v) r s w)
up_kept said (Ok x) s w = record { lines = refl; over = refl; count = refl; phase = refl }
up_kept said (Err Stopped) s w = record { lines = refl; over = refl; count = refl; phase = refl }
up_kept said (Err fault) s w = record { lines = refl; over = refl; count = refl; phase = refl }

up_lines : {R : Type 0} (said : R → List ℕ) (r : Result R StoreFault) (s : State) (w : World) (lines : List Timed)
    → with_lines lines (tells (λ x t v. up_with (said x) t v) r s w) ≡ tells (λ x t v. up_with (said x) t v) r s (with_lines lines w)
up_lines said (Ok x) s w lines = refl
up_lines said (Err Stopped) s w lines = refl
up_lines said (Err fault) s w lines = refl

now_kept : {R : Type 0} (said : R → List ℕ) (r : Result R StoreFault) (s : State) (w : World) → Kept w (tells (λ x t v. now_stands (said x) t v) r s w)
now_kept said (Ok x) s w = record { lines = refl; over = refl; count = refl; phase = refl }
now_kept said (Err Stopped) s w = record { lines = refl; over = refl; count = refl; phase = refl }
now_kept said (Err fault) s w = record { lines = refl; over = refl; count = refl; phase = refl }

now_lines : {R : Type 0} (said : R → List ℕ) (r : Result R StoreFault) (s : State) (w : World) (lines : List Timed)
    → with_lines lines (tells (λ x t v. now_stands (said x) t v) r s w) ≡ tells (λ x t v. now_stands (said x) t v) r s (with_lines lines w)
now_lines said (Ok x) s w lines = refl
now_lines said (Err Stopped) s w lines = refl
now_lines said (Err fault) s w lines = refl

refused_kept : (fault : StoreFault) (w : World) → Kept w (line_refused fault w)
refused_kept fault w = record { lines = refl; over = refl; count = refl; phase = refl }

-- FORMAT, START, RESTORE
abbrev Rises : {R : Type 0} → (State → Outcome → Result R StoreFault → State → Type 0) → (R → List ℕ) → Outcome → Bool → World → World → Type 0
Rises {R} Does said o b w new =
    MatchBool (not b) ((r : Result R StoreFault) × (s : State) × (Does w.store o r s × IsTold o r) × (new ≡ tells (λ x t v. up_with (said x) t v) r s w)) ((o ≡ Plain) × (new ≡ line_refused Running w))

rises_kept : {R : Type 0} (Does : State → Outcome → Result R StoreFault → State → Type 0) (said : R → List ℕ) (o : Outcome) (b : Bool) (w new : World) → Rises Does said o b w new → Kept w new
rises_kept Does said o true w new (plain, is) = kept_as w new (line_refused Running w) is (refused_kept Running w)
rises_kept Does said o false w new (r, s, does, is) = kept_as w new (tells (λ x t v. up_with (said x) t v) r s w) is (up_kept said r s w)

rises_lines : {R : Type 0} (Does : State → Outcome → Result R StoreFault → State → Type 0) (said : R → List ℕ) (o : Outcome) (b : Bool) (w new : World) (lines : List Timed)
    → Rises Does said o b w new → Rises Does said o b (with_lines lines w) (with_lines lines new)
rises_lines Does said o true w new lines (plain, is) = (plain, to_lines lines new (line_refused Running w) (line_refused Running (with_lines lines w)) is refl)
rises_lines Does said o false w new lines (r, s, does, is) =
    (r, s, does, to_lines lines new (tells (λ x t v. up_with (said x) t v) r s w) (tells (λ x t v. up_with (said x) t v) r s (with_lines lines w)) is (up_lines said r s w lines))

-- DUMP, PROCESS, MIGRATE
abbrev Needs : {R : Type 0} → (Result R StoreFault → State → Type 0) → (R → List ℕ) → Outcome → Bool → World → World → Type 0
Needs {R} Does said o b w new =
    MatchBool b ((r : Result R StoreFault) × (s : State) × Does r s × (new ≡ tells (λ x t v. now_stands (said x) t v) r s w)) ((o ≡ Plain) × (new ≡ line_refused NotStarted w))

needs_kept : {R : Type 0} (Does : Result R StoreFault → State → Type 0) (said : R → List ℕ) (o : Outcome) (b : Bool) (w new : World) → Needs Does said o b w new → Kept w new
needs_kept Does said o true w new (r, s, does, is) = kept_as w new (tells (λ x t v. now_stands (said x) t v) r s w) is (now_kept said r s w)
needs_kept Does said o false w new (plain, is) = kept_as w new (line_refused NotStarted w) is (refused_kept NotStarted w)

needs_lines : {R : Type 0} (Does : Result R StoreFault → State → Type 0) (said : R → List ℕ) (o : Outcome) (b : Bool) (w new : World) (lines : List Timed)
    → Needs Does said o b w new → Needs Does said o b (with_lines lines w) (with_lines lines new)
needs_lines Does said o true w new lines (r, s, does, is) =
    (r, s, does, to_lines lines new (tells (λ x t v. now_stands (said x) t v) r s w) (tells (λ x t v. now_stands (said x) t v) r s (with_lines lines w)) is (now_lines said r s w lines))
needs_lines Does said o false w new lines (plain, is) = (plain, to_lines lines new (line_refused NotStarted w) (line_refused NotStarted (with_lines lines w)) is refl)

-- the others
record Same (w v other : World) (lines : List Timed) : Type 0 where
  kept : Kept w v
  same : with_lines lines v ≡ other

shut_same : (d : Option OpenDump) (b : Bool) (w : World) (lines : List Timed)
    → (let u : World = with_lines lines w in Same w (if b then shut_with d w else line_refused NotStarted w) (if b then shut_with d u else line_refused NotStarted u) lines)
shut_same None true w lines = record { kept = record { lines = refl; over = refl; count = refl; phase = refl }; same = refl }
shut_same (Some dump) true w lines = record { kept = record { lines = refl; over = refl; count = refl; phase = refl }; same = refl }
shut_same d false w lines = record { kept = refused_kept NotStarted w; same = refl }

job_same : (refusal : Option (List ℕ)) (taken other : World) (b : Bool) (w : World) (lines : List Timed) → Kept w taken → with_lines lines taken ≡ other
    → (let u : World = with_lines lines w in Same w (if b then job_line refusal taken w else line_refused NotStarted w) (if b then job_line refusal other u else line_refused NotStarted u) lines)
job_same None taken other true w lines kept same = record { kept = kept; same = same }
job_same (Some text) taken other true w lines kept same = record { kept = record { lines = refl; over = refl; count = refl; phase = refl }; same = refl }
job_same refusal taken other false w lines kept same = record { kept = refused_kept NotStarted w; same = refl }

changed_same : (t : ℕ) (change : JobState → JobState) (j : Option JobState) (b : Bool) (w : World) (lines : List Timed)
    → (let u : World = with_lines lines w in Same w (if b then changed_at t change j w else line_refused NotStarted w) (if b then changed_at t change j u else line_refused NotStarted u) lines)
changed_same t change None true w lines = record { kept = record { lines = refl; over = refl; count = refl; phase = refl }; same = refl }
changed_same t change (Some j) true w lines = record { kept = record { lines = refl; over = refl; count = refl; phase = refl }; same = refl }
changed_same t change j false w lines = record { kept = refused_kept NotStarted w; same = refl }

pub line_lined : (o : Outcome) (what : Operator) (w new : World) → LineGives o what w new → Lined o what w new
line_lined o line.Format w new gives = record {
  kept = rises_kept FormatStep (λ r. codes "FORMATTED") o w.store.up w new gives;
  gives = λ lines. rises_lines FormatStep (λ r. codes "FORMATTED") o w.store.up w new lines gives;
}
line_lined o line.Start w new gives = record {
  kept = rises_kept StartStep started_text o w.store.up w new gives;
  gives = λ lines. rises_lines StartStep started_text o w.store.up w new lines gives;
}
line_lined o line.Restore w new gives = record {
  kept = rises_kept RestoreStep (λ n. codes "RESTORED FROM DUMP " ++ decimal n) o w.store.up w new gives;
  gives = λ lines. rises_lines RestoreStep (λ n. codes "RESTORED FROM DUMP " ++ decimal n) o w.store.up w new lines gives;
}
line_lined o line.Shut w new (plain, is) = record {
  kept = kept_as w new _ is (shut_same w.store.open_dump w.store.up w w.lines).kept;
  gives = λ lines. (plain, to_lines lines new _ _ is (shut_same w.store.open_dump w.store.up w lines).same);
}
line_lined o (line.Job name user time money lines) w new (plain, is) =
    let same = λ (ls : List Timed). job_same (job_refusal w user time money) (taken_in name user time money lines w) (taken_in name user time money lines (with_lines ls w)) w.store.up w ls
    (record { lines = refl; over = refl; count = refl; phase = refl }) refl in record {
      kept = kept_as w new _ is (same w.lines).kept;
      gives = λ ls. (plain, to_lines ls new _ _ is (same ls).same);
    }
line_lined o (line.Mount serial) w new gives = record {
  kept = needs_kept (λ r s. IsMounting w.store serial o r s) (λ _. tape_text serial (codes "MOUNTED")) o true w new gives;
  gives = λ lines. needs_lines (λ r s. IsMounting w.store serial o r s) (λ _. tape_text serial (codes "MOUNTED")) o true w new lines gives;
}
line_lined o (line.Unmount serial) w new gives = record {
  kept = needs_kept (λ r s. IsUnmounting w.store serial o r s) (λ _. tape_text serial (codes "UNMOUNTED")) o true w new gives;
  gives = λ lines. needs_lines (λ r s. IsUnmounting w.store serial o r s) (λ _. tape_text serial (codes "UNMOUNTED")) o true w new lines gives;
}
line_lined o (line.Dump serial) w new gives = record {
  kept = needs_kept (λ r s. IsOpening w.store serial o r s) (λ n. dump_text n (codes "OPENED")) o w.store.up w new gives;
  gives = λ lines. needs_lines (λ r s. IsOpening w.store serial o r s) (λ n. dump_text n (codes "OPENED")) o w.store.up w new lines gives;
}
line_lined o (line.Process serial) w new gives = record {
  kept = needs_kept (λ r s. IsProcessing w.store serial o r s) (processed_text serial) o w.store.up w new gives;
  gives = λ lines. needs_lines (λ r s. IsProcessing w.store serial o r s) (processed_text serial) o w.store.up w new lines gives;
}
line_lined o (line.Migrate path) w new gives = record {
  kept = needs_kept (λ r s. IsMigration w.store path o r s) (λ full. codes "MIGRATED " ++ full_text full) o w.store.up w new gives;
  gives = λ lines. needs_lines (λ r s. IsMigration w.store path o r s) (λ full. codes "MIGRATED " ++ full_text full) o w.store.up w new lines gives;
}
line_lined o (line.StopDisc k) w new (plain, is) = record {
  kept = kept_as w new _ is (record { lines = refl; over = refl; count = refl; phase = refl });
  gives = λ lines. (plain, to_lines lines new _ _ is refl);
}
line_lined o (line.StopTape k) w new (plain, is) = record {
  kept = kept_as w new _ is (record { lines = refl; over = refl; count = refl; phase = refl });
  gives = λ lines. (plain, to_lines lines new _ _ is refl);
}
line_lined o (line.Login t user time) w new (plain, is) =
    let same = λ (ls : List Timed). job_same (login_refusal w t user time) (logged_in t user time w) (logged_in t user time (with_lines ls w)) w.store.up w ls
    (record { lines = refl; over = refl; count = refl; phase = refl }) refl in record {
      kept = kept_as w new _ is (same w.lines).kept;
      gives = λ ls. (plain, to_lines ls new _ _ is (same ls).same);
    }
line_lined o (line.Typed t text) w new (plain, is) = record {
  kept = kept_as w new _ is (changed_same t (typed_to text) (open_at t w.jobs) w.store.up w w.lines).kept;
  gives = λ lines. (plain, to_lines lines new _ _ is (changed_same t (typed_to text) (open_at t w.jobs) w.store.up w lines).same);
}
line_lined o (line.Logout t) w new (plain, is) = record {
  kept = kept_as w new _ is (changed_same t logged_out (open_at t w.jobs) w.store.up w w.lines).kept;
  gives = λ lines. (plain, to_lines lines new _ _ is (changed_same t logged_out (open_at t w.jobs) w.store.up w lines).same);
}
