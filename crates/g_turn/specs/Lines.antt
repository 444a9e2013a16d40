-- One line, and the WHENEVER after it.
use Rattle.std.specs.Prelude.{Err, List, None, Ok, Option, Some, false, if◌then◌else◌, true, ℕ}
use Rattle.g_turn.specs.Commands.{done_if}
use Rattle.g_turn.specs.Releases.{end_job}
use Rattle.g_turn.specs.Outcomes.{in_error, is_over, say, with_levels}
use Rattle.g_turn.specs.State.{AgainCommand, AgainLine, Work}
use Rattle.g_lang.specs.LineReader.{reading}
use Rattle.g_lang.specs.Lines.{Reading}
use Rattle.g_lang.specs.Words.{trimmed}
use Rattle.g_macro.specs.Levels.{Level, Line, Nothing, Taken, TooLong, fired}
use Rattle.g_monitor.specs.JobLines.{marked}
use Rattle.g_monitor.specs.declared.errors.CommandError.TheVariants as errors
use Rattle.g_monitor.specs.declared.job_lines.Mark.TheVariants as mark
use Rattle.g_plain.specs.Programs.{Asks, Gives, and_then}

-- If the command of a WHENEVER waits, the turn resumes with this command.
abbrev pub to_go_on : List ℕ → Work → Work
to_go_on text w = record w { again = Some (AgainCommand w.text w.orders w.blocks text) }

-- The command of a WHENEVER is printed, in its own level; the levels above it are dropped.
abbrev pub says_fired : ℕ → List ℕ → List Level → Work → Work
says_fired room text levels w = say room (marked mark.Fired text) (with_levels (record w.desk.levels { levels = levels }) w)

-- The echo of a line; if its command waits, the turn resumes with this line.
abbrev pub says_line : ℕ → List ℕ → Work → Work
says_line room text w = say room (marked mark.Taken (trimmed text)) (record w { again = Some (AgainLine text) })

module _ (room : ℕ) (who : List ℕ) where
  -- THE WHENEVER after a command that set the outcome: the first one that holds. Its command is executed at once, without another substitution, and
  -- no other WHENEVER follows it.
  abbrev pub does_read : Reading → Work → Asks Work
  does_read (Err place) w = Gives w
  does_read (Ok said) w = done_if room who true said.command w

  -- Executes the command of a WHENEVER that fired; if it waits, the turn resumes with it.
  abbrev pub does_fired : List ℕ → Work → Asks Work
  does_fired text w = does_read (reading text) (to_go_on text w)

  -- Prints the command that fires and executes it; nothing if none does.
  abbrev pub fires : Option (List ℕ × List Level) → Work → Asks Work
  fires None w = Gives w
  fires (Some entry) w = and_then is_over (Gives (says_fired room entry.0 entry.1 w)) (does_fired entry.0)

  -- Executes the WHENEVER that fires, if the command set the outcome.
  abbrev pub may_fire : Work → Asks Work
  may_fire w = if w.sets then fires (fired w.desk.outcome w.desk.levels.levels) w else Gives w

  -- A LINE: its echo, its command, and the WHENEVER after it.
  abbrev pub does_line : Reading → Work → Asks Work
  does_line (Err place) w = Gives (in_error room (errors.BadLine place) w)
  does_line (Ok said) w = done_if room who false said.command w

  -- Executes a line after its echo, and the WHENEVER after it.
  abbrev pub behind_echo : List ℕ → Work → Asks Work
  behind_echo text w = and_then is_over (does_line (reading text) w) may_fire

  -- Executes a line: its echo, its command, and the WHENEVER after it.
  abbrev pub line : List ℕ → Work → Asks Work
  line text w = and_then is_over (Gives (says_line room text w)) (behind_echo text)

  -- The error of a line above 240 bytes, and the WHENEVER after it.
  abbrev pub too_long : Work → Asks Work
  too_long w = and_then is_over (Gives (in_error room (errors.BadLine 240) w)) may_fire

  -- A line above 240 bytes is bad: its first 240 bytes are printed unchanged, followed by the error.
  abbrev pub long_line : List ℕ → Work → Asks Work
  long_line front w = and_then is_over (Gives (say room (marked mark.Taken front) w)) too_long

  -- The effect of what is taken from the levels; with no line left the job ends as by ENDJOB, without an echo.
  abbrev pub takes : Taken → Work → Asks Work
  takes Nothing w = end_job room w
  takes (Line text) w = line text w
  takes (TooLong front) w = long_line front w
