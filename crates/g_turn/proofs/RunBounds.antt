-- A run of the program stays within its orders and all other limits.
-- serves: CommandBounds, VerbBounds
use Rattle.std.proofs.Common.{ℕ, zero, suc, ◌+◌, ◌-◌, ◌≤◌, Bool, true, false, List, Option, Some, None, le_refl, sym, subst, arith}
use Rattle.g_turn.specs.Runs.{Ends, Goes, Order, behind_event, behind_order, by_event, entered, goes_on, one_order, order_of, resumed, run_orders, run_over, running_by, without_program}
use Rattle.g_turn.specs.Outcomes.{set_outcome, in_error, is_over}
use Rattle.g_turn.specs.State.{Work}
use Rattle.g_turn.proofs.BoundLemmas.{Good, error_good, good_more, if_good, say_good}
use Rattle.g_turn.proofs.RunLemmas.{work_of}
use Rattle.g_turn.proofs.UnitLemmas.{order_many}
use Rattle.g_macro.specs.declared.outcome.EventNote.{EventNote}
use Rattle.g_macro.specs.declared.outcome.EventNote.TheVariants as note
use Rattle.g_mill.specs.Machine.{Machine}
use Rattle.g_monitor.specs.JobLines.{job_line, marked}
use Rattle.g_monitor.specs.declared.errors.CommandError.TheVariants as errors
use Rattle.g_monitor.specs.declared.job_lines.JobLine.TheVariants as line
use Rattle.g_monitor.specs.declared.job_lines.Mark.TheVariants as mark
use Rattle.g_peri.specs.OneOrder.{order_with}
use Rattle.g_peri.specs.declared.ordered.OrderEvent.{OrderEvent}
use Rattle.g_peri.specs.declared.ordered.OrderEvent.TheVariants as came

module _ (room most : ℕ) where
  over_good : (runs : ℕ) (event : EventNote) (halted : Bool) (text : List ℕ) (w : Work) → Good room runs most w → Good room runs most (run_over room event halted text w)
  over_good runs event halted text w g =
      say_good room runs most text (set_outcome false event (record w { desk = record w.desk { running = None; halted = halted } })) g

  event_good : (runs : ℕ) (event : OrderEvent) (w : Work) → Good room runs most w → Good room runs most (work_of (by_event room event w))
  event_good runs came.Ran w g = g
  event_good runs (came.Displayed text) w g = say_good room runs most (marked mark.Displayed text) w g
  event_good runs (came.Halted text) w g = over_good runs (note.Halted text) true (marked mark.Halted text) w g
  event_good runs (came.Deleted text) w g = over_good runs (note.Deleted text) false (marked mark.Deleted text) (without_program w) g
  event_good runs (came.Illegal word at) w g = over_good runs note.Failed false (job_line (line.Illegal word at)) w g

  -- one order counts as one, and preserves the number of outputs
  behind_good : (runs : ℕ) (p : Machine) (w : Work) → Good room runs most w → Good room (runs + 1) most (behind_order (order_with w.desk.units p) w)
  behind_good runs p w g =
      let few : w.orders ≤ runs = g.1 in
      (g.0, omega (arith, few), g.2, subst (λ (n : ℕ). n ≤ 16) (sym (order_many w.desk.units p)) g.3, g.4, g.5)

  behind_event_good : (runs runs' : ℕ) (more : Work → Work) → runs ≤ runs' → ((w : Work) → Good room runs most w → Good room runs' most (more w)) → (o : Order)
      → Good room runs most (work_of o) → Good room runs' most (behind_event more o)
  behind_event_good runs runs' more less on (Ends w) g = good_more room runs runs' most most w less (le_refl most) g
  behind_event_good runs runs' more less on (Goes w) g =
      if_good room runs' most (is_over w) w (more w) (good_more room runs runs' most most w less (le_refl most) g) (on w g)

  order_good : (runs runs' : ℕ) (more : Work → Work) → runs + 1 ≤ runs' → ((w : Work) → Good room (runs + 1) most w → Good room runs' most (more w)) → (p : Option Machine) (w : Work)
      → Good room runs most w → Good room runs' most (order_of room more p w)
  order_good runs runs' more less on None w g = good_more room runs runs' most most w (omega (arith, less)) (le_refl most) g
  order_good runs runs' more less on (Some p) w g =
      behind_event_good (runs + 1) runs' more less on (one_order room p w)
      (event_good (runs + 1) (order_with w.desk.units p).event (behind_order (order_with w.desk.units p) w) (behind_good runs p w g))

  run_good : (left runs : ℕ) (w : Work) → Good room runs most w → Good room (runs + left) most (run_orders room left w)
  unfolding run_orders
  run_good zero runs w g = good_more room runs (runs + 0) most most w (omega arith) (le_refl most) g
  run_good (suc left) runs w g =
      order_good runs (runs + suc left) (run_orders room left) (omega arith)
      (λ v h. good_more room (runs + 1 + left) (runs + suc left) most most (run_orders room left v) (omega arith) (le_refl most) (run_good left (runs + 1) v h))
      w.desk.program w g

  -- a turn's 64 orders
  pub goes_on_good : (w : Work) → Good room 64 most w → Good room 64 most (goes_on room w)
  goes_on_good w g =
      let few : w.orders ≤ 64 = g.1 in
      good_more room (w.orders + (64 - w.orders)) 64 most most (goes_on room w) (omega (arith, few)) (le_refl most)
      (run_good (64 - w.orders) w.orders w (g.0, le_refl w.orders, g.2, g.3, g.4, g.5))

  pub entered_good : (by : Bool) (n : ℕ) (p : Option Machine) (w : Work) → Good room 64 most w → Good room 64 most (entered room by n p w)
  entered_good by n None w g = error_good room 64 most errors.NoProgram w g
  entered_good by n (Some p) w g = goes_on_good (running_by by (record p { next = 20 + n; overflow = false }) w) g

  pub resumed_good : (by : Bool) (p : Option Machine) (w : Work) → Good room 64 most w → Good room 64 most (resumed room by p w)
  resumed_good by None w g = error_good room 64 most errors.NoProgram w g
  resumed_good by (Some p) w g =
      if_good room 64 most w.desk.halted (goes_on room (running_by by p w)) (in_error room errors.NotHalted w) (goes_on_good (running_by by p w) g)
      (error_good room 64 most errors.NotHalted w g)
