-- The maximum usage of a turn, for any answers of a store.
use Rattle.std.specs.Prelude.{Err, IfSome, Ok, Option, Some, is_some, length, true, ℕ, ◌≡◌, ◌≤◌}
use Rattle.g_turn.specs.State.{AgainCommand, AgainLine, Pending, Stop, Waits, Work}
use Rattle.g_plain.specs.Programs.{Answer, Asks, Call, Gives}
use Rattle.g_plain.specs.PlainAnswers.{may_wait}
use Rattle.g_plain.specs.Replies.{IsReplyTo}
use Rattle.g_plain.specs.declared.calls.StoreCall.{StoreCall}
use Rattle.g_plain.specs.declared.faults.StoreFault.TheVariants as fault

-- An answer that a store may give: a reply of the call's kind, a wait if the call may wait, any other fault except out of memory.
abbrev pub MayAnswer : StoreCall → Answer → Type 0
MayAnswer asked (Ok reply) = IsReplyTo asked reply
MayAnswer asked (Err (fault.WaitTape serial)) = may_wait asked ≡ true
MayAnswer asked (Err fault.NoMemory) = ⊥
MayAnswer asked (Err other) = Unit {0}

module _ (P : Work → Type 0) where
  -- For any answers that a store may give, the program's result has the property.
  abbrev pub AlwaysGives : Asks Work → Type 0
  AlwaysGives (Gives w) = P w
  AlwaysGives (Call asked more) = (answer : Answer) → MayAnswer asked answer → AlwaysGives (more answer)

-- What was stored of a line fits into the file, and is within the limits of a line.
abbrev pub IsKeptWithin : ℕ → Pending → Type 0
IsKeptWithin room (AgainLine text) = Unit {0}
IsKeptWithin room (AgainCommand text orders blocks command) = (length text ≤ room) × (orders ≤ 64) × (blocks ≤ 2048)

-- A turn that waits has something to resume with.
abbrev pub HasMore : Option Stop → Option Pending → Type 0
HasMore (Some (Waits serial)) again = is_some again ≡ true
HasMore stop again = Unit {0}

-- WITHIN THE LIMITS OF A TURN: its text fits into the file, its usage is in the range of a tariff, and if it waits, it has something to resume with.
pub record IsWithin (room : ℕ) (w : Work) : Type 0 where
  pub text : length w.text ≤ room
  pub orders : w.orders ≤ 64
  pub blocks : w.blocks ≤ 4096
  pub kept : IfSome w.again (IsKeptWithin room)
  pub waits : HasMore w.stop w.again
