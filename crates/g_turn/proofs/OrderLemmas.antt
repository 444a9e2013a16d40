-- A run of the program, order by order.
-- serves: go_on (ok), step (ok), PlainLemmas
use Rattle.std.proofs.Common.{◌≡◌, ◌+◌, ◌-◌, ◌<◌, ◌≤◌, ℕ, suc, Bool, true, false, List, Option, Some, None, if◌then◌else◌, length, nat_lt, refl, sym, ap, ◌∙◌, subst, arith}
use Rattle.g_turn.specs.Runs.{Ends, Goes, behind_event, behind_order, by_event, goes_on, next_order, order_of, run_orders}
use Rattle.g_turn.specs.Outcomes.{is_over, say}
use Rattle.g_turn.specs.State.{Work}
use Rattle.g_turn.specs.Values.{Stepped, order_as}
use Rattle.g_lines.specs.Lines.{ended}
use Rattle.g_mill.specs.Machine.{Machine}
use Rattle.g_monitor.specs.JobLines.{marked}
use Rattle.g_monitor.specs.declared.job_lines.Mark.TheVariants as mark
use Rattle.g_peri.specs.JobUnits.{Held}
use Rattle.g_peri.specs.OneOrder.{order_with}
use Rattle.g_peri.specs.declared.ordered.OrderEvent.{OrderEvent}
use Rattle.g_peri.specs.declared.ordered.OrderEvent.TheVariants as came

-- printing a line counts no order
if_orders : (b : Bool) (x y : Work) (n : ℕ) → x.orders ≡ n → y.orders ≡ n → (if b then x else y).orders ≡ n
if_orders true x y n ex ey = ex
if_orders false x y n ex ey = ey

say_orders : (room : ℕ) (text : List ℕ) (w : Work) → (say room text w).orders ≡ w.orders
say_orders room text w = if_orders (nat_lt room (length w.text + length (ended text))) _ _ w.orders refl refl

-- an order after which the run continues counts as one
event_orders : (room : ℕ) (event : OrderEvent) (w v : Work) → by_event room event w ≡ Goes v → v.orders ≡ w.orders
event_orders room came.Ran w v is = let same : w ≡ v = cc in ap (λ (x : Work). x.orders) (sym same)
event_orders room (came.Displayed text) w v is =
    let same : say room (marked mark.Displayed text) w ≡ v = cc in ap (λ (x : Work). x.orders) (sym same) ∙ say_orders room (marked mark.Displayed text) w
event_orders room (came.Halted text) w v is = absurd (cc)
event_orders room (came.Deleted text) w v is = absurd (cc)
event_orders room (came.Illegal word at) w v is = absurd (cc)

next_orders : (room : ℕ) (p : Option Machine) (w v : Work) → next_order room p w ≡ Goes v → v.orders ≡ w.orders + 1
next_orders room None w v is = absurd (cc)
next_orders room (Some p) w v is = event_orders room _ _ v is

order_ends : (room : ℕ) (more : Work → Work) (p : Option Machine) (w v : Work) → next_order room p w ≡ Ends v → order_of room more p w ≡ v
order_ends room more None w v is = cc
order_ends room more (Some p) w v is = ap (behind_event more) is

order_goes : (room : ℕ) (more : Work → Work) (p : Option Machine) (w v : Work) → next_order room p w ≡ Goes v → order_of room more p w ≡ (if is_over v then v else more v)
order_goes room more None w v is = absurd (cc)
order_goes room more (Some p) w v is = ap (behind_event more) is

run_next : (room : ℕ) (w : Work) → w.orders < 64 → goes_on room w ≡ order_of room (run_orders room (63 - w.orders)) w.desk.program w
unfolding run_orders
run_next room w few =
    let is : 64 - w.orders ≡ suc (63 - w.orders) = omega (arith, few) in
    subst (λ (n : ℕ). run_orders room n w ≡ order_of room (run_orders room (63 - w.orders)) w.desk.program w) (sym is) refl

-- no order is left
pub goes_nowhere : (room : ℕ) (w : Work) → 64 ≤ w.orders → goes_on room w ≡ w
unfolding run_orders
goes_nowhere room w many =
    let is : 64 - w.orders ≡ 0 = omega (arith, many) in
    subst (λ (n : ℕ). run_orders room n w ≡ w) (sym is) refl

-- the run is over after the next order
pub run_ends : (room : ℕ) (w v : Work) → w.orders < 64 → next_order room w.desk.program w ≡ Ends v → goes_on room w ≡ v
run_ends room w v few is = run_next room w few ∙ order_ends room (run_orders room (63 - w.orders)) w.desk.program w v is

-- the work is over after the next order
pub run_stops : (room : ℕ) (w v : Work) → w.orders < 64 → next_order room w.desk.program w ≡ Goes v → is_over v ≡ true → goes_on room w ≡ v
run_stops room w v few is over =
    run_next room w few ∙ order_goes room (run_orders room (63 - w.orders)) w.desk.program w v is
    ∙ ap (λ (b : Bool). if b then v else run_orders room (63 - w.orders) v) over

-- the run continues after the next order, which counts as one
pub run_on : (room : ℕ) (w v : Work) → w.orders < 64 → next_order room w.desk.program w ≡ Goes v → is_over v ≡ false → goes_on room w ≡ goes_on room v
run_on room w v few is over =
    let one : v.orders ≡ w.orders + 1 = next_orders room w.desk.program w v is in
    let left : 63 - w.orders ≡ 64 - v.orders = omega (arith, one, few) in
    run_next room w few ∙ order_goes room (run_orders room (63 - w.orders)) w.desk.program w v is
    ∙ ap (λ (b : Bool). if b then v else run_orders room (63 - w.orders) v) over ∙ ap (λ (n : ℕ). run_orders room n v) left

-- the next order of the program was executed
pub stepped : (w old : Work) (p p' : Machine) (units' : Held) (event : OrderEvent) → w ≡ old → w.desk.program ≡ Some p
    → order_with w.desk.units p ≡ record { units = units'; machine = p'; event = event }
    → Stepped (Some event) old (record w { orders = w.orders + 1; desk = record w.desk { units = units'; program = Some p' } })
stepped w old p p' units' event same there is =
    subst (λ (x : Work). Stepped (Some event) x (record w { orders = w.orders + 1; desk = record w.desk { units = units'; program = Some p' } })) same
    (p, there, ap (λ o. o.event) (sym is), ap (λ o. behind_order o w) (sym is))

module _ (room : ℕ) (w v : Work) (goes : Bool) (few : w.orders < 64) (is : next_order room w.desk.program w ≡ order_as goes v) where
  next_as : (b : Bool) → goes ≡ b → next_order room w.desk.program w ≡ order_as b v
  next_as b same = is ∙ ap (λ (x : Bool). order_as x v) same

  pub rest_ends : goes ≡ false → v ≡ goes_on room w
  rest_ends ends = sym (run_ends room w v few (next_as false ends))

  pub rest_stops : goes ≡ true → is_over v ≡ true → v ≡ goes_on room w
  rest_stops on over = sym (run_stops room w v few (next_as true on) over)

  pub rest_goes : goes ≡ true → is_over v ≡ false → goes_on room v ≡ goes_on room w
  rest_goes on over = sym (run_on room w v few (next_as true on) over)
