-- What every answer also satisfies: a reply is of the call's kind, and a call waits only if it may, for a reel that isn't
-- mounted.
use Rattle.std.specs.Prelude.{◌≡◌, ℕ, Bool, false, true, Err, IfOk, Result}
use Rattle.g_tape.specs.Rack.{Rack, is_mounted, reel}
use Rattle.g_plain.specs.declared.calls.StoreCall.{StoreCall}
use Rattle.g_plain.specs.declared.calls.StoreReply.{StoreReply}
use Rattle.g_plain.specs.declared.faults.StoreFault.{StoreFault}
use Rattle.g_plain.specs.declared.faults.StoreFault.TheVariants.{Stopped, WaitTape}
use Rattle.g_plain.specs.PlainAnswers.{may_wait}
use Rattle.g_plain.specs.Replies.{IsReplyTo}

-- `rack` is the rack before the call.
pub record IsKind (call : StoreCall) (rack : Rack) (answer : Result StoreReply StoreFault) : Type 0 where
  pub reply : IfOk answer (IsReplyTo call)
  pub waits : (serial : ℕ) → answer ≡ Err (WaitTape serial) → is_mounted (reel serial rack.reels) ≡ false
  pub may : (serial : ℕ) → answer ≡ Err (WaitTape serial) → may_wait call ≡ true

-- The same for a call that needs no tape: it never waits.
pub record IsSettled (call : StoreCall) (answer : Result StoreReply StoreFault) : Type 0 where
  pub reply : IfOk answer (IsReplyTo call)
  pub no_wait : (serial : ℕ) → answer ≡ Err (WaitTape serial) → ⊥

-- The answer that leaves the store spent.
abbrev pub stops_call : Result StoreReply StoreFault → Bool
stops_call (Err Stopped) = true
stops_call answer = false
