-- The beginning of a job, and of a turn.
use Rattle.std.specs.Prelude.{List, None, [], false, length, ℕ, ◌-◌}
use Rattle.g_turn.specs.State.{Desk, Work}
use Rattle.g_job.specs.State.{JobState}
use Rattle.g_lines.specs.Lines.{ended}
use Rattle.g_macro.specs.Levels.{begun}
use Rattle.g_macro.specs.declared.outcome.EventNote.TheVariants as note
use Rattle.g_monitor.specs.JobLines.{header}
use Rattle.g_peri.specs.JobUnits.{vacant}
use Rattle.g_rules.specs.declared.rule.Standing.{Standing}

-- The desk of a job at its beginning: only its document, no program, no unit assigned, and no error yet.
abbrev pub desk_begun : List (List ℕ) → Desk
desk_begun lines = record {
  levels = begun lines;
  outcome = record { error = false; event = note.None };
  program = None;
  halted = false;
  running = None;
  units = vacant;
}

-- A JOB AT ITS BEGINNING, with this much TIME and MONEY; its monitoring file has its first line.
abbrev pub job_begun : ℕ → List ℕ → List ℕ → ℕ → ℕ → List (List ℕ) → JobState
job_begun number name user time money lines = record {
  number = number;
  name = name;
  user = user;
  allowance = time;
  money = money;
  used = 0;
  used_money = 0;
  turns = 0;
  desk = desk_begun lines;
  pending = None;
  wants = None;
  monitor = ended (header number name user);
  over = false;
  terminal = None;
}

-- The work at the beginning of a turn.
abbrev pub begin : JobState → Work
begin j = record { desk = j.desk; text = []; orders = 0; blocks = 0; sets = false; again = None; stop = None }

-- The number of bytes that a job's monitoring file takes before it is full.
abbrev pub room_of : JobState → ℕ
room_of j = 1048576 - length j.monitor

-- The standing of a job, by which the next turn is chosen.
abbrev pub standing_of : JobState → Standing
standing_of j = record { number = j.number; used = j.used; allowance = j.allowance; turns = j.turns }
