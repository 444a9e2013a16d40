-- The beginning of a turn: with what waited, with a run of the program, or with a line.
use Rattle.std.specs.Prelude.{Bool, List, None, Option, Some, if◌then◌else◌, ℕ}
use Rattle.g_turn.specs.Lines.{does_fired, line, may_fire, takes}
use Rattle.g_turn.specs.Runs.{goes_on}
use Rattle.g_turn.specs.Outcomes.{is_over, with_levels}
use Rattle.g_turn.specs.State.{AgainCommand, AgainLine, Pending, Work}
use Rattle.g_macro.specs.Levels.{Stack, Taken, next_line}
use Rattle.g_plain.specs.Programs.{Asks, Gives, and_then}

-- What was stored of the line before the command of a WHENEVER that waited.
abbrev pub with_kept : List ℕ → ℕ → ℕ → Work → Work
with_kept text orders blocks w = record w { text = text; orders = orders; blocks = blocks }

module _ (room : ℕ) (who : List ℕ) where
  -- A run of the program continues; a WHENEVER follows its end, unless one began it.
  abbrev pub fires_unless : Bool → Work → Asks Work
  fires_unless by w = if by then Gives w else may_fire room who w

  -- Continues a run of the program, and executes the WHENEVER after it unless one began the run.
  abbrev pub runs_on : Bool → Work → Asks Work
  runs_on by w = and_then is_over (Gives (goes_on room w)) (fires_unless by)

  -- A line is taken, or the job has none left.
  abbrev pub takes_line : Taken × Stack → Work → Asks Work
  takes_line taken w = takes room who taken.0 (with_levels taken.1 w)

  -- Continues a run that isn't over; otherwise takes the next line.
  abbrev pub runs_or_takes : Option Bool → Work → Asks Work
  runs_or_takes (Some by) w = runs_on by w
  runs_or_takes None w = takes_line (next_line w.desk.levels) w

  -- The turn resumes with what waited: the line from its echo on; or the command of a WHENEVER, after what was stored.
  abbrev pub goes_on_with : Pending → Work → Asks Work
  goes_on_with (AgainLine text) w = line room who text w
  goes_on_with (AgainCommand text orders blocks command) w = does_fired room who command (with_kept text orders blocks w)

  -- The program of a turn: resumes with what is pending; otherwise continues a run or takes the next line.
  abbrev pub begins : Option Pending → Work → Asks Work
  begins None w = runs_or_takes w.desk.running w
  begins (Some pending) w = goes_on_with pending w
