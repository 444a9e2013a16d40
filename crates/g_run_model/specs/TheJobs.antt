-- The program's jobs: how a job begins, what a turn of it does, and how a turn ends.
use Rattle.std.specs.Prelude.{ℕ, List, [], Option}
use Rattle.g_job.specs.Beginning.{job_begun, standing_of}
use Rattle.g_job.specs.State.{JobState}
use Rattle.g_job.specs.Terminal.{held, is_ready, logged_out, seated, typed_to}
use Rattle.g_job.specs.TurnEnd.{turn_end}
use Rattle.g_job.specs.Turns.{turn_work}
use Rattle.g_mop.specs.TerminalLines.{terminal_name}
use Rattle.g_turn.specs.State.{Work}
use Rattle.g_any_run.specs.Jobs.{Jobs}

-- The initial job of a terminal: its document is empty and held open.
abbrev pub terminal_job : ℕ → ℕ → List ℕ → ℕ → JobState
terminal_job number t user time = seated t (held (job_begun number (terminal_name t) user time 1000 []))

-- THE JOBS of the program.
abbrev pub the_jobs : Jobs JobState Work
the_jobs = record {
  number = λ j. j.number;
  user = λ j. j.user;
  time = λ j. j.allowance;
  money = λ j. j.money;
  used = λ j. j.used;
  used_money = λ j. j.used_money;
  standing = standing_of;
  monitor = λ j. j.monitor;
  wants = λ j. j.wants;
  terminal = λ j. j.terminal;
  is_open = λ j. j.desk.levels.held;
  is_ready = is_ready;
  begun = job_begun;
  begun_at = terminal_job;
  typed = typed_to;
  logged_out = logged_out;
  work = turn_work;
  usage = λ w. record { orders = w.orders; blocks = w.blocks };
  ends = turn_end;
}
