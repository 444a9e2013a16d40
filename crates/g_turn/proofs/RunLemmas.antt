-- A run of the program neither waits nor is stopped.
-- serves: CommandLemmas, KeptLemmas, RunBounds, VerbLemmas
use Rattle.std.proofs.Common.{ℕ, zero, suc, ◌+◌, ◌-◌, Bool, true, false, List, Option, Some, None}
use Rattle.g_turn.specs.Causes.{GoesOn}
use Rattle.g_turn.specs.Runs.{Ends, Goes, Order, behind_event, behind_order, by_event, entered, goes_on, one_order, order_of, resumed, run_orders, run_over, running_by, without_program}
use Rattle.g_turn.specs.Outcomes.{set_outcome, in_error, is_over}
use Rattle.g_turn.specs.State.{Work}
use Rattle.g_turn.proofs.HonestLemmas.{error_goes, if_goes, say_goes}
use Rattle.g_macro.specs.declared.outcome.EventNote.{EventNote}
use Rattle.g_macro.specs.declared.outcome.EventNote.TheVariants as note
use Rattle.g_mill.specs.Machine.{Machine}
use Rattle.g_monitor.specs.JobLines.{job_line, marked}
use Rattle.g_monitor.specs.declared.errors.CommandError.TheVariants as errors
use Rattle.g_monitor.specs.declared.job_lines.JobLine.TheVariants as line
use Rattle.g_monitor.specs.declared.job_lines.Mark.TheVariants as mark
use Rattle.g_peri.specs.OneOrder.{order_with}
use Rattle.g_peri.specs.declared.ordered.OrderEvent.{OrderEvent}
use Rattle.g_peri.specs.declared.ordered.OrderEvent.TheVariants as came

-- the work of an order
abbrev pub work_of : Order → Work
work_of (Goes w) = w
work_of (Ends w) = w

over_goes : (room : ℕ) (event : EventNote) (halted : Bool) (text : List ℕ) (w : Work) → GoesOn w.stop → GoesOn (run_over room event halted text w).stop
over_goes room event halted text w goes =
    say_goes room text (set_outcome false event (record w { desk = record w.desk { running = None; halted = halted } })) goes

event_goes : (room : ℕ) (event : OrderEvent) (w : Work) → GoesOn w.stop → GoesOn (work_of (by_event room event w)).stop
event_goes room came.Ran w goes = goes
event_goes room (came.Displayed text) w goes = say_goes room (marked mark.Displayed text) w goes
event_goes room (came.Halted text) w goes = over_goes room (note.Halted text) true (marked mark.Halted text) w goes
event_goes room (came.Deleted text) w goes = over_goes room (note.Deleted text) false (marked mark.Deleted text) (without_program w) goes
event_goes room (came.Illegal word at) w goes = over_goes room note.Failed false (job_line (line.Illegal word at)) w goes

behind_goes : (more : Work → Work) → ((w : Work) → GoesOn w.stop → GoesOn (more w).stop) → (o : Order) → GoesOn (work_of o).stop → GoesOn (behind_event more o).stop
behind_goes more on (Ends w) goes = goes
behind_goes more on (Goes w) goes = if_goes (is_over w) w (more w) goes (on w goes)

order_goes : (room : ℕ) (more : Work → Work) → ((w : Work) → GoesOn w.stop → GoesOn (more w).stop) → (p : Option Machine) (w : Work) → GoesOn w.stop → GoesOn (order_of room more p w).stop
order_goes room more on None w goes = goes
order_goes room more on (Some p) w goes =
    behind_goes more on (one_order room p w) (event_goes room (order_with w.desk.units p).event (behind_order (order_with w.desk.units p) w) goes)

pub run_goes : (room left : ℕ) (w : Work) → GoesOn w.stop → GoesOn (run_orders room left w).stop
unfolding run_orders
run_goes room zero w goes = goes
run_goes room (suc left) w goes = order_goes room (run_orders room left) (run_goes room left) w.desk.program w goes

pub goes_on_goes : (room : ℕ) (w : Work) → GoesOn w.stop → GoesOn (goes_on room w).stop
goes_on_goes room w goes = run_goes room (64 - w.orders) w goes

pub entered_goes : (room : ℕ) (by : Bool) (n : ℕ) (p : Option Machine) (w : Work) → GoesOn w.stop → GoesOn (entered room by n p w).stop
entered_goes room by n None w goes = error_goes room errors.NoProgram w goes
entered_goes room by n (Some p) w goes = goes_on_goes room (running_by by (record p { next = 20 + n; overflow = false }) w) goes

pub resumed_goes : (room : ℕ) (by : Bool) (p : Option Machine) (w : Work) → GoesOn w.stop → GoesOn (resumed room by p w).stop
resumed_goes room by None w goes = error_goes room errors.NoProgram w goes
resumed_goes room by (Some p) w goes =
    if_goes w.desk.halted (goes_on room (running_by by p w)) (in_error room errors.NotHalted w) (goes_on_goes room (running_by by p w) goes)
    (error_goes room errors.NotHalted w goes)
