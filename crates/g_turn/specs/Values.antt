-- The meaning of the code's values: why a turn's work is over, what a turn that waits resumes with, what a file's bytes are fetched for, and the
-- event of an order.
use Rattle.std.specs.Prelude.{Bool, List, None, Option, Some, false, option_map, true, ℕ, ◌≡◌}
use Rattle.g_turn.specs.Runs.{Ends, Goes, Order, behind_order}
use Rattle.g_turn.specs.State.{AgainCommand, AgainLine, Broken, Done, Full, Pending, Stop, Waits, Work}
use Rattle.g_turn.specs.Uses.{ToAppend, ToAssemble, ToAssign, ToList, ToLoad, ToPut, Use}
use Rattle.g_turn.specs.declared.suspended.Suspended.{Suspended}
use Rattle.g_turn.specs.declared.suspended.Suspended.TheVariants as again
use Rattle.g_turn.specs.declared.stop.Stop as code
use Rattle.g_turn.specs.declared.stop.Stop.TheVariants as stop
use Rattle.g_turn.specs.declared.uses.Use as uses
use Rattle.g_turn.specs.declared.uses.Use.TheVariants as uses_for
use Rattle.g_mill.specs.Machine.{Machine}
use Rattle.g_peri.specs.OneOrder.{order_with}
use Rattle.g_peri.specs.declared.ordered.OrderEvent.{OrderEvent}

-- What a turn resumes with.
abbrev pub pending_of : Suspended → Pending
pending_of (again.Line text) = AgainLine text
pending_of (again.Command text orders blocks command) = AgainCommand text orders blocks command

-- The last line if the flag says so, otherwise what was stored.
abbrev pub again_of : Bool → List ℕ → Option Suspended → Option Pending
again_of true line kept = Some (AgainLine line)
again_of false line kept = option_map pending_of kept

-- The reason why a turn's work is over.
abbrev pub stop_of : code.Stop → Stop
stop_of stop.Full = Full
stop_of (stop.Waits serial) = Waits serial
stop_of stop.Broken = Broken
stop_of stop.Done = Done

-- What a file's bytes are fetched for.
abbrev pub use_of : uses.Use → Use
use_of (uses_for.Put path) = ToPut path
use_of (uses_for.Append path) = ToAppend path
use_of (uses_for.Assemble path) = ToAssemble path
use_of uses_for.List = ToList
use_of uses_for.Load = ToLoad
use_of (uses_for.Assign unit file) = ToAssign unit

-- Whether the run continues, with the work that it leaves.
abbrev pub order_as : Bool → Work → Order
order_as true w = Goes w
order_as false w = Ends w

-- The outcome of the program's next order; without a program there is none.
abbrev pub Stepped : Option OrderEvent → Work → Work → Type 0
Stepped None old new = (old.desk.program ≡ None) × (new ≡ old)
Stepped (Some event) old new =
    (p : Machine) × (old.desk.program ≡ Some p) × (event ≡ (order_with old.desk.units p).event) × (new ≡ behind_order (order_with old.desk.units p) old)
