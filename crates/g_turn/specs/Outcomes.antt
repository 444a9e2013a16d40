-- Printing, the outcome of a command, and what stops a turn's work.
use Rattle.std.specs.Prelude.{Bool, List, Some, [], false, if◌then◌else◌, is_some, length, nat_lt, true, ℕ, ◌++◌, ◌+◌, ◌∷◌}
use Rattle.g_base.specs.Block.{blocks_for}
use Rattle.g_turn.specs.State.{Broken, Full, Stop, Waits, Work}
use Rattle.g_lines.specs.Lines.{ended}
use Rattle.g_macro.specs.Levels.{Stack}
use Rattle.g_macro.specs.declared.outcome.EventNote.{EventNote}
use Rattle.g_macro.specs.declared.outcome.EventNote.TheVariants as note
use Rattle.g_monitor.specs.JobLines.{marked}
use Rattle.g_monitor.specs.Refusals.{error_line, fault_line}
use Rattle.g_monitor.specs.declared.errors.CommandError.{CommandError}
use Rattle.g_monitor.specs.declared.job_lines.Mark.TheVariants as mark
use Rattle.g_peri.specs.JobUnits.{Held}
use Rattle.g_plain.specs.declared.faults.StoreFault.{StoreFault}
use Rattle.g_plain.specs.declared.faults.StoreFault.TheVariants as fault

-- The work is over.
abbrev pub is_over : Work → Bool
is_over w = is_some w.stop

-- The work is over for this reason.
abbrev pub stopped : Stop → Work → Work
stopped why w = record w { stop = Some why }

-- ONE LINE IS PRINTED; if the file has no room for it, it isn't added, and the work is over.
abbrev pub say : ℕ → List ℕ → Work → Work
say room line w =
    if nat_lt room (length w.text + length (ended line)) then stopped Full w else record w { text = w.text ++ ended line }

-- Lines are printed in order, and none after the first that finds no room.
abbrev pub say_all : ℕ → List (List ℕ) → Work → Work
say_all room [] w = w
say_all room (line ∷ lines) w = if is_over (say room line w) then say room line w else say_all room lines (say room line w)

-- The work with other levels.
abbrev pub with_levels : Stack → Work → Work
with_levels levels w = record w { desk = record w.desk { levels = levels } }

-- The work with other units.
abbrev pub with_units : Held → Work → Work
with_units units w = record w { desk = record w.desk { units = units } }

-- The command sets the outcome: whether it was an error, and what happened to the program.
abbrev pub set_outcome : Bool → EventNote → Work → Work
set_outcome error event w = record w { sets = true; desk = record w.desk { outcome = record { error = error; event = event } } }

-- The command is done, and was no error.
abbrev pub done : Work → Work
done w = set_outcome false note.None w

-- The command is an error: number and text are printed, and the job continues.
abbrev pub error_said : ℕ → List ℕ → Work → Work
error_said room text w = say room (marked mark.Error text) (set_outcome true note.None w)

-- An error that isn't a store's fault.
abbrev pub in_error : ℕ → CommandError → Work → Work
in_error room error w = error_said room (error_line error) w

-- A call was refused. A wait and a stop aren't errors of the command; they end the work.
abbrev pub refused : ℕ → StoreFault → Work → Work
refused room (fault.WaitTape serial) w = stopped (Waits serial) w
refused room fault.Stopped w = stopped Broken w
refused room other w = error_said room (fault_line other) w

-- A granted call transferred this many bytes: their blocks count.
abbrev pub with_bytes : ℕ → Work → Work
with_bytes n w = record w { blocks = w.blocks + blocks_for n }
