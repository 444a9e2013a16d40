-- Orders whose event is Ran, many at once: a run continues after them as after each of them.
-- serves: run_plain (same)
use Rattle.std.proofs.Common.{◌≡◌, ◌+◌, ◌<◌, ◌≤◌, ℕ, zero, suc, Bool, true, false, Option, Some, None, refl, sym, ap, ◌∙◌, arith}
use Rattle.g_turn.specs.Runs.{Goes, behind_order, by_event, goes_on, next_order}
use Rattle.g_turn.specs.Outcomes.{is_over}
use Rattle.g_turn.specs.State.{Work}
use Rattle.g_turn.proofs.OrderLemmas.{run_on}
use Rattle.g_mill.specs.Effect.{order}
use Rattle.g_mill.specs.Machine.{Machine}
use Rattle.g_mill.specs.Running.{RunsTo}
use Rattle.g_mill.specs.declared.event.Event.{Event}
use Rattle.g_mill.specs.declared.event.Event.TheVariants as event
use Rattle.g_peri.specs.JobUnits.{Held}
use Rattle.g_peri.specs.OneOrder.{Ordered, order_with, ordered_by}
use Rattle.g_peri.specs.declared.ordered.OrderEvent.TheVariants as came

-- after this many orders that left this program
abbrev pub behind_plain : ℕ → Machine → Work → Work
behind_plain count p w = record w { orders = w.orders + count; desk = record w.desk { program = Some p } }

-- an order whose event is Ran leaves the units unchanged
order_plain : (units : Held) (p : Machine) → (order p).1 ≡ event.Ran → order_with units p ≡ record { units = units; machine = (order p).0; event = came.Ran }
order_plain units p ran = ap (λ (told : Event). ordered_by units (order p).0 told) ran

one_plain : (room : ℕ) (w : Work) (p : Machine) → w.orders < 64 → w.desk.program ≡ Some p → is_over w ≡ false → (order p).1 ≡ event.Ran
    → goes_on room w ≡ goes_on room (behind_plain 1 (order p).0 w)
one_plain room w p few there over ran =
    let next : next_order room w.desk.program w ≡ Goes (behind_plain 1 (order p).0 w) =
    ap (λ (program : Option Machine). next_order room program w) there
    ∙ ap (λ (o : Ordered). by_event room o.event (behind_order o w)) (order_plain w.desk.units p ran) in
    run_on room w (behind_plain 1 (order p).0 w) few next over

none_plain : (w : Work) (p p' : Machine) → w.desk.program ≡ Some p → p' ≡ p → w ≡ behind_plain 0 p' w
none_plain w p p' there is =
    ap (λ (program : Option Machine). let v : Work = record w { desk = record w.desk { program = program } } in v) (there ∙ ap Some (sym is))
    ∙ ap (λ (orders : ℕ). let v : Work = record w { orders = orders; desk = record w.desk { program = Some p' } } in v) (omega arith)

pub many_plain : (room count : ℕ) (w : Work) (p p' : Machine) → w.orders + count ≤ 64 → w.desk.program ≡ Some p → is_over w ≡ false → RunsTo count p p'
    → goes_on room w ≡ goes_on room (behind_plain count p' w)
many_plain room zero w p p' few there over runs = ap (goes_on room) (none_plain w p p' there runs)
many_plain room (suc count) w p p' few there over runs =
    one_plain room w p (omega (arith, few)) there over runs.0
    ∙ many_plain room count (behind_plain 1 (order p).0 w) (order p).0 p' (omega (arith, few)) refl over runs.1
    ∙ ap (λ (orders : ℕ). goes_on room (record w { orders = orders; desk = record w.desk { program = Some p' } })) (omega arith)

-- the same after a run of a program's orders
pub run_plainly : (room count : ℕ) (w old : Work) (p p' : Machine) → w ≡ old → w.orders + count ≤ 64 → w.desk.program ≡ Some p → is_over old ≡ false → RunsTo count p p'
    → goes_on room (behind_plain count p' w) ≡ goes_on room old
run_plainly room count w old p p' same few there over runs =
    sym (many_plain room count w p p' few there (ap is_over same ∙ over) runs) ∙ ap (goes_on room) same
