-- The runs of a job's program: up to 64 orders in a turn.
use Rattle.std.specs.Prelude.{Bool, List, None, Option, Some, false, if◌then◌else◌, suc, true, zero, ℕ, ◌+◌, ◌-◌}
use Rattle.g_turn.specs.Outcomes.{set_outcome, in_error, is_over, say}
use Rattle.g_turn.specs.State.{Work}
use Rattle.g_macro.specs.declared.outcome.EventNote.{EventNote}
use Rattle.g_macro.specs.declared.outcome.EventNote.TheVariants as note
use Rattle.g_mill.specs.Machine.{Machine}
use Rattle.g_monitor.specs.JobLines.{job_line, marked}
use Rattle.g_monitor.specs.declared.errors.CommandError.TheVariants as errors
use Rattle.g_monitor.specs.declared.job_lines.JobLine.TheVariants as line
use Rattle.g_monitor.specs.declared.job_lines.Mark.TheVariants as mark
use Rattle.g_peri.specs.OneOrder.{Ordered, order_with}
use Rattle.g_peri.specs.declared.ordered.OrderEvent.{OrderEvent}
use Rattle.g_peri.specs.declared.ordered.OrderEvent.TheVariants as came

-- The work after one order, with the units and the program that it leaves; an illegal one counts too.
abbrev pub behind_order : Ordered → Work → Work
behind_order o w = record w { orders = w.orders + 1; desk = record w.desk { units = o.units; program = Some o.machine } }

-- A run is over: its command sets the outcome, with what happened to the program, and the line of that is printed.
abbrev pub run_ended : EventNote → Bool → Work → Work
run_ended event halted w = set_outcome false event (record w { desk = record w.desk { running = None; halted = halted } })

-- The work after a run that ended with this event, with its line printed.
abbrev pub run_over : ℕ → EventNote → Bool → List ℕ → Work → Work
run_over room event halted text w = say room text (run_ended event halted w)

-- The work without a program.
abbrev pub without_program : Work → Work
without_program w = record w { desk = record w.desk { program = None } }

-- The state of a run after an order: it continues, or it is over.
pub data Order : Type 0 where
  Goes : Work → Order
  Ends : Work → Order

-- A halt, a deletion and an illegal order end a run; a display doesn't.
abbrev pub by_event : ℕ → OrderEvent → Work → Order
by_event room came.Ran w = Goes w
by_event room (came.Displayed text) w = Goes (say room (marked mark.Displayed text) w)
by_event room (came.Halted text) w = Ends (run_over room (note.Halted text) true (marked mark.Halted text) w)
by_event room (came.Deleted text) w = Ends (run_over room (note.Deleted text) false (marked mark.Deleted text) (without_program w))
by_event room (came.Illegal word at) w = Ends (run_over room note.Failed false (job_line (line.Illegal word at)) w)

-- The state of the run after one order of the program.
abbrev pub one_order : ℕ → Machine → Work → Order
one_order room p w = by_event room (order_with w.desk.units p).event (behind_order (order_with w.desk.units p) w)

-- The next order of the program; without a program the run is over.
abbrev pub next_order : ℕ → Option Machine → Work → Order
next_order room None w = Ends w
next_order room (Some p) w = one_order room p w

-- What follows an order: nothing if the run or the work is over.
abbrev pub behind_event : (Work → Work) → Order → Work
behind_event more (Ends w) = w
behind_event more (Goes w) = if is_over w then w else more w

-- The next order of the program, and what follows it.
abbrev pub order_of : ℕ → (Work → Work) → Option Machine → Work → Work
order_of room more None w = w
order_of room more (Some p) w = behind_event more (one_order room p w)

-- A RUN of at most this many orders; once they are used up, it continues in the next turn.
unfoldable pub run_orders : ℕ → ℕ → Work → Work
run_orders room zero w = w
run_orders room (suc left) w = order_of room (run_orders room left) w.desk.program w

-- A turn runs 64 orders, those of its line and of a WHENEVER's command together.
abbrev pub goes_on : ℕ → Work → Work
goes_on room w = run_orders room (64 - w.orders) w

-- A run begins; `by` says whether a WHENEVER began it.
abbrev pub running_again : Bool → Work → Work
running_again by w = record w { desk = record w.desk { running = Some by; halted = false } }

-- A run of this program begins; `by` says whether a WHENEVER began it.
abbrev pub running_by : Bool → Machine → Work → Work
running_by by p w = record w { desk = record w.desk { program = Some p; running = Some by; halted = false } }

-- ENTER: the program starts at one of its entries, with overflow clear.
abbrev pub entered : ℕ → Bool → ℕ → Option Machine → Work → Work
entered room by n None w = in_error room errors.NoProgram w
entered room by n (Some p) w = goes_on room (running_by by (record p { next = 20 + n; overflow = false }) w)

-- RESUME: the program continues after its halt.
abbrev pub resumed : ℕ → Bool → Option Machine → Work → Work
resumed room by None w = in_error room errors.NoProgram w
resumed room by (Some p) w = if w.desk.halted then goes_on room (running_by by p w) else in_error room errors.NotHalted w
