-- One order with its transfer.
use Rattle.std.specs.Prelude.{◌≡◌, ℕ, Bool, true, false, Option, Some, None, Result, Ok, Err, ⊤, slice_index}
use Rattle.g_base.specs.declared.memory.NoMemory.{NoMemory}
use Rattle.g_mill.specs.declared.event.Event.{Event}
use Rattle.g_mill.specs.declared.event.Event.TheVariants as event
use Rattle.g_mill.specs.Machine.{Machine, going_to, preceding}
use Rattle.g_mill.specs.Effect.{order}
use Rattle.g_peri.specs.declared.ordered.OrderEvent.{OrderEvent}
use Rattle.g_peri.specs.declared.ordered.OrderEvent.TheVariants as came
use Rattle.g_peri.specs.JobUnits.{Held}
use Rattle.g_peri.specs.Transfer.{transfer, puts_by}

-- The state after one order, and its event.
pub record Ordered : Type 0 where
  pub units : Held
  pub machine : Machine
  pub event : OrderEvent

-- A transfer that the units refuse makes its order illegal: the program's next address is that of the order again.
abbrev pub transferred : Held → Machine → Option (Held × Machine) → Ordered
transferred units p (Some both) = record { units = both.0; machine = both.1; event = came.Ran }
transferred units p None = record {
  units = units;
  machine = going_to p (preceding p.next);
  event = came.Illegal (slice_index p.words (preceding p.next)) (preceding p.next);
}

-- The state after an order whose step left this program and this event.
abbrev pub ordered_by : Held → Machine → Event → Ordered
ordered_by units p event.Ran = record { units = units; machine = p; event = came.Ran }
ordered_by units p (event.Peri area) = transferred units p (transfer units p area)
ordered_by units p (event.Halted text) = record { units = units; machine = p; event = came.Halted text }
ordered_by units p (event.Displayed text) = record { units = units; machine = p; event = came.Displayed text }
ordered_by units p (event.Deleted text) = record { units = units; machine = p; event = came.Deleted text }
ordered_by units p (event.Illegal word at) = record { units = units; machine = p; event = came.Illegal word at }

-- ONE ORDER WITH ITS TRANSFER.
abbrev pub order_with : Held → Machine → Ordered
order_with units p = ordered_by units (order p).0 (order p).1

-- The request of an order appends bytes to an output.
abbrev pub event_puts : Held → Machine → Event → Bool
event_puts units p event.Ran = false
event_puts units p (event.Peri area) = puts_by units p area
event_puts units p (event.Halted text) = false
event_puts units p (event.Displayed text) = false
event_puts units p (event.Deleted text) = false
event_puts units p (event.Illegal word at) = false

-- The result of one order with its transfer. Memory is allocated only if bytes are appended to an output; if it runs out, units and program are
-- unchanged.
abbrev pub Orders : Result OrderEvent NoMemory → Held → Machine → Held → Machine → Type 0
Orders (Ok event) units p units' p' = order_with units p ≡ record { units = units'; machine = p'; event = event }
Orders (Err _) units p units' p' = (event_puts units (order p).0 (order p).1 ≡ true) × (units' ≡ units) × (p' ≡ p)

-- The result of the transfer of an order that the program has passed; if memory runs out, the program is before the order again.
abbrev pub Transferred : Result OrderEvent NoMemory → Held → Machine → Held → Machine → ℕ → Type 0
Transferred (Ok event) units p units' p' area =
    transferred units p (transfer units p area) ≡ record { units = units'; machine = p'; event = event }
Transferred (Err _) units p units' p' area = (puts_by units p area ≡ true) × (units' ≡ units) × (p' ≡ going_to p (preceding p.next))

-- An illegal order is the one at the next address, and leaves units and program unchanged.
abbrev pub Stays : OrderEvent → Held → Machine → Held → Machine → Type 0
Stays came.Ran units p units' p' = ⊤
Stays (came.Halted text) units p units' p' = ⊤
Stays (came.Displayed text) units p units' p' = ⊤
Stays (came.Deleted text) units p units' p' = ⊤
Stays (came.Illegal word at) units p units' p' = (at ≡ p.next) × (units' ≡ units) × (p' ≡ p)
