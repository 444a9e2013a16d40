-- The moves of a tick, and of a line, each with what it leaves and what it adds to the text.
-- serves: PutLemmas, crates above
use Rattle.std.proofs.Common.{◌≡◌, ◌⊎◌, ◌+◌, ℕ, true, false, List, [], ◌∷◌, ◌++◌, None, Result, Ok, Err, codes, append_assoc, append-nil, refl, sym}
use Rattle.std.specs.Fmt.{decimal}
use Rattle.std.specs.Fn.{Shared}
use denote.Ref.{Bor}
use Rattle.g_rules.specs.declared.tariff.Charge.{Charge}
use Rattle.g_rules.specs.declared.tariff.Usage.{Usage}
use Rattle.g_job.specs.State.{JobState}
use Rattle.g_rules.specs.declared.turn.Turn.{Turn}
use Rattle.g_rules.specs.declared.turn.Turn.TheVariants as turns
use Rattle.g_monitor.specs.Refusals.{fault_line}
use Rattle.g_plain.specs.declared.faults.StoreFault.{StoreFault}
use Rattle.g_plain.specs.declared.faults.StoreFault.TheVariants.{Stopped}
use Rattle.g_rules.specs.declared.rule.Standing.{Standing}
use Rattle.g_script.specs.declared.operator.Timed.{Timed}
use Rattle.g_store_model.specs.CallStep.{Outcome}
use Rattle.g_store_model.specs.DumpSteps.{Completed, Going, Stepped as DumpStepped}
use Rattle.g_store_model.specs.State.{State}
use Rattle.g_run_model.specs.Lines.{LineGives, is_process}
use Rattle.g_run_model.specs.Moves.{Over, Run, TakeLine, Ticked, dump_told, turn_told}
use Rattle.g_run_model.specs.Texts.{broken_files, dump_text, ended_file, job_text, operator_line}
use Rattle.g_run_model.specs.World.{Between, KeepsLines, Stepped, Turned, World, able, closed, has_none, is_due, nothing_steps, with_job}

-- what a step of the dump adds to the text
abbrev pub dump_added : ℕ → ℕ → Result DumpStepped StoreFault → List JobState → List ℕ
dump_added count number (Ok Going) jobs = []
dump_added count number (Ok (Completed n)) jobs = operator_line count (dump_text n (codes "COMPLETED"))
dump_added count number (Err Stopped) jobs = operator_line count (codes "SYSTEM STOPPED") ++ broken_files jobs
dump_added count number (Err fault) jobs = operator_line count (dump_text number (codes "LOST " ++ fault_line fault))

pub dump_adds : (number : ℕ) (r : Result DumpStepped StoreFault) (s : State) (w : World) → (dump_told number r s w).text ≡ w.text ++ dump_added w.count number r w.jobs
dump_adds number (Ok Going) s w = sym (append-nil w.text)
dump_adds number (Ok (Completed n)) s w = refl
dump_adds number (Err Stopped) s w = append_assoc w.text (operator_line w.count (codes "SYSTEM STOPPED")) (broken_files w.jobs)
dump_adds number (Err fault) s w = refl

pub dump_keeps_lines : (number : ℕ) (r : Result DumpStepped StoreFault) (s : State) (w : World) → KeepsLines w (dump_told number r s w)
dump_keeps_lines number (Ok Going) s w = record { lines = refl; bad = refl; over = refl; count = refl; disc_stops = refl; tape_stops = refl }
dump_keeps_lines number (Ok (Completed n)) s w = record { lines = refl; bad = refl; over = refl; count = refl; disc_stops = refl; tape_stops = refl }
dump_keeps_lines number (Err Stopped) s w = record { lines = refl; bad = refl; over = refl; count = refl; disc_stops = refl; tape_stops = refl }
dump_keeps_lines number (Err fault) s w = record { lines = refl; bad = refl; over = refl; count = refl; disc_stops = refl; tape_stops = refl }

-- what the end of a turn adds
abbrev pub turn_added : ℕ → JobState → Turn → List JobState → List ℕ
turn_added count j turns.Broken jobs = operator_line count (codes "SYSTEM STOPPED") ++ broken_files (with_job j jobs)
turn_added count j (turns.Wants serial) jobs = operator_line count (job_text j.number (codes "WANTS TAPE " ++ decimal serial))
turn_added count j (turns.Ran units money) jobs = []
turn_added count j (turns.Ended units money) jobs = ended_file j

pub turn_adds : (j : JobState) (t : Turn) (w : World) → (turn_told j t w).text ≡ w.text ++ turn_added w.count j t w.jobs
turn_adds j turns.Broken w = append_assoc w.text (operator_line w.count (codes "SYSTEM STOPPED")) (broken_files (with_job j w.jobs))
turn_adds j (turns.Wants serial) w = refl
turn_adds j (turns.Ran units money) w = sym (append-nil w.text)
turn_adds j (turns.Ended units money) w = refl

module _ {F U : Type 0} (tariffs : Shared F (Bor Usage × Unit {0}) Charge) (tariff : F) (rules : Shared U (Bor Standing × Unit {0}) ℕ) (rule : U) where
  -- the tick is over
  pub tick_move : (w : World) → w.turn ≡ None → ((w.phase ≡ Turned) ⊎ ((w.phase ≡ Stepped) × (has_none (able w) ≡ true)))
      → (let next : World = record w { count = w.count + 1; phase = Between } in Run tariffs tariff rules rule w (Ticked ∷ []) next)
  tick_move w idle through = (record w { count = w.count + 1; phase = Between }, (idle, through, refl), refl)

  -- a line is taken
  pub line_move : (w : World) (next : Timed) (rest : List Timed) (o : Outcome) (new : World) → w.lines ≡ next ∷ rest → w.phase ≡ Between → w.turn ≡ None
      → (is_due w ≡ true) ⊎ (nothing_steps w ≡ true) → LineGives o next.what (record w { lines = rest }) new → Run tariffs tariff rules rule w (TakeLine (is_process next.what) o ∷ []) new
  line_move w next rest o new lines between idle due gives = (new, (next, rest, lines, between, idle, due, refl, gives), refl)

  -- the run is over
  pub over_move : (w : World) → w.phase ≡ Between → w.turn ≡ None → w.lines ≡ [] → nothing_steps w ≡ true → w.over ≡ false → Run tariffs tariff rules rule w (Over ∷ []) (closed w)
  over_move w between idle lines nothing going = (closed w, (between, idle, lines, nothing, going, refl), refl)
