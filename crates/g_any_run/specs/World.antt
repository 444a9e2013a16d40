-- The world of a run.
use Rattle.std.specs.Prelude.{◌≡◌, if◌then◌else◌, ℕ, ◌==◌, Bool, true, false, not, ◌&&◌, nat_le, List, [], ◌∷◌, ◌++◌, map, filter, find, Option, Some, None, is_some, codes}
use Rattle.g_plain.specs.Programs.{Asks}
use Rattle.g_any_run.specs.Jobs.{Jobs}
use Rattle.g_store_model.specs.State.{State, is_mounted}
use Rattle.g_script.specs.declared.operator.Timed.{Timed}
use Rattle.g_any_run.specs.Accounts.{Opened}
use Rattle.g_any_run.specs.Texts.{operator_line, broken_files, waiting_files, closing, shown}

-- The phase of a tick: none has begun; its dump step is done, or there was none; its turn is over.
pub data Phase : Type 0 where
  Between : Phase
  Stepped : Phase
  Turned : Phase

-- The world. `turn` is the number of the job whose turn it is, with the rest of the turn's program. The stops are the
-- numbers of the STOP lines that were done, in order.
pub record World (J W : Type 0) : Type 0 where
  pub lines : List Timed
  pub bad : Option ℕ
  pub count : ℕ
  pub phase : Phase
  pub store : State
  pub accounts : List Opened
  pub jobs : List J
  pub next_job : ℕ
  pub turn : Option (ℕ × Asks W)
  pub disc_stops : List ℕ
  pub tape_stops : List ℕ
  pub text : List ℕ
  pub over : Bool

-- What no turn of a job changes: the remaining lines, the count, the numbers that each device was armed with, and whether
-- the run is over.
pub record KeepsLines {J W : Type 0} (w new : World J W) : Type 0 where
  pub lines : new.lines ≡ w.lines
  pub bad : new.bad ≡ w.bad
  pub over : new.over ≡ w.over
  pub count : new.count ≡ w.count
  pub disc_stops : new.disc_stops ≡ w.disc_stops
  pub tape_stops : new.tape_stops ≡ w.tape_stops

-- The world before anything is done.
abbrev pub start : {J W : Type 0} → List Timed → Option ℕ → State → World J W
start lines bad s = record {
  lines = lines;
  bad = bad;
  count = 0;
  phase = Between;
  store = s;
  accounts = [];
  jobs = [];
  next_job = 1;
  turn = None;
  disc_stops = [];
  tape_stops = [];
  text = [];
  over = false;
}

-- Whether there are no jobs in the list.
abbrev pub has_none : {J : Type 0} → List J → Bool
has_none [] = true
has_none (j ∷ crew) = false

module _ {J W : Type 0} where
  -- Whether a dump is open.
  abbrev pub is_dumping : World J W → Bool
  is_dumping w = is_some w.store.open_dump

  -- The next line is due.
  abbrev pub is_due : World J W → Bool
  is_due w = due w.lines w.count
    where
      due : List Timed → ℕ → Bool
      due [] count = false
      due (line ∷ lines) count = nat_le line.turn count

  -- A line for the operator is printed.
  abbrev pub says : List ℕ → World J W → World J W
  says what w = record w { text = w.text ++ operator_line w.count what }

module _ {J W : Type 0} (jobs : Jobs J W) where
  -- The reel that a job waits for is mounted, or it waits for none.
  abbrev pub has_reel : State → J → Bool
  has_reel s j = may s (jobs.wants j)
    where
      may : State → Option ℕ → Bool
      may t None = true
      may t (Some serial) = is_mounted t serial

  -- A job can step unless it waits for a reel that isn't mounted, or, at a terminal, for a line.
  abbrev pub can_step : State → J → Bool
  can_step s j = has_reel s j && jobs.is_ready j

  -- The jobs that can step.
  abbrev pub able : World J W → List J
  able w = filter (can_step w.store) w.jobs

  -- No dump is open, and no job can step.
  abbrev pub nothing_steps : World J W → Bool
  nothing_steps w = not (is_dumping w) && has_none (able w)

  -- The job of this number, if there is one.
  abbrev pub job_of : World J W → ℕ → Option J
  job_of w number = find (λ j. jobs.number j == number) w.jobs

  -- The jobs with this one in place of the one of its number.
  abbrev pub with_job : J → List J → List J
  with_job j crew = map (λ k. if jobs.number k == jobs.number j then j else k) crew

  -- The jobs without the one of this number.
  abbrev pub without_job : ℕ → List J → List J
  without_job number crew = filter (λ j. not (jobs.number j == number)) crew

  -- What was added to a terminal's file is printed at once.
  abbrev pub shows : J → J → World J W → World J W
  shows old new w = record w { text = w.text ++ shown jobs old new }

  -- The system is down: accounts and jobs are gone, and each job's file is printed.
  abbrev pub goes_down : List ℕ → State → World J W → World J W
  goes_down what s w = record w {
    store = s;
    accounts = [];
    jobs = [];
    text = (w.text ++ operator_line w.count what) ++ broken_files jobs w.jobs;
  }

  -- The system is down after a failed write, which is printed.
  abbrev pub system_stopped : State → World J W → World J W
  system_stopped s w = goes_down (codes "SYSTEM STOPPED") s w

  -- The end of the run.
  abbrev pub closed : World J W → World J W
  closed w = record w { jobs = []; over = true; text = (w.text ++ waiting_files jobs w.jobs) ++ closing w.bad }
