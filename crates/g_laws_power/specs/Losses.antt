-- What a power loss leaves of the devices of a store.
use Rattle.std.specs.Prelude.{◌≡◌, ℕ, List, Option, Result, Some, Err}
use Rattle.g_dirs.specs.Durable.{IsDiscSafe}
use Rattle.g_disc.specs.Disc.{DiscState}
use Rattle.g_tape.specs.Durable.{IsDurable}
use Rattle.g_tape.specs.Rack.{Rack}
use Rattle.g_plain.specs.declared.calls.StoreCall.{StoreCall}
use Rattle.g_plain.specs.declared.calls.StoreReply.{StoreReply}
use Rattle.g_plain.specs.declared.faults.StoreFault.{StoreFault}
use Rattle.g_plain.specs.declared.faults.StoreFault.TheVariants.{Stopped}
use Rattle.g_store_model.specs.State.{Holding, State}
use Rattle.g_store_model.specs.CallStep.{CallStep, Outcome, down}
use Rattle.g_store_meaning.specs.Answers.{Answers, Told}
use Rattle.g_shelf.specs.Surviving.{DumpsSurvive}
use Rattle.g_store_meaning.specs.Belonging.{Belong, BelongWith}
use Rattle.g_store_meaning.specs.Meaning.{told_reels}
use Rattle.g_store_meaning.specs.Reading.{AllTold, StandsForState}
use Rattle.g_store_meaning.specs.Safety.{CanBeSafe, IsLeft, IsSafe, StandLike}
use Rattle.g_store_meaning.specs.StoreInvariant.{StoreFacts}
use Rattle.g_store_meaning.specs.Surviving.{DumpsMadeSafe, disc_left}
use Rattle.g_store.specs.Making.{Begun, Formats, Restored}

-- WHATEVER A POWER LOSS LEAVES of the devices of a safe store between two calls belongs together, and represents the state that the store would
-- leave by going down.
abbrev pub StoreSurvives : Type 0
StoreSurvives = (s : StoreFacts) (blocks : List (List ℕ)) (rack : Rack) → IsSafe s → IsLeft s.online.disc s.rack blocks rack
    → BelongWith (Some blocks) (told_reels rack) × ((u : State) → StandsForState s u → StandLike s.online.disc.size blocks rack (down u))

-- The call was stopped, and the devices represent a state like one that it may leave: with or without its change.
pub record StopsLike (s : State) (who : List ℕ) (call : StoreCall) (size : ℕ) (blocks : List (List ℕ)) (rack : Rack) : Type 0 where
  pub held : Holding
  pub holds : s.holding ≡ Some held
  pub outcome : Outcome
  pub after : State
  pub step : CallStep s held who call outcome (Err Stopped) after
  pub stand : StandLike size blocks rack after

-- WHATEVER A POWER LOSS LEAVES after a call that was stopped belongs together, and represents a state that the stopped call may leave.
abbrev pub StoppedCallsSurvive : Type 0
StoppedCallsSurvive = (old new : StoreFacts) (who : List ℕ) (call : StoreCall) (blocks : List (List ℕ)) (rack : Rack) → IsSafe old → Answers old who call (Err Stopped) new → IsLeft new.online.disc new.rack blocks rack
    → BelongWith (Some blocks) (told_reels rack) × ((s : State) → StandsForState old s → StopsLike s who call new.online.disc.size blocks rack)

-- EACH OTHER CALL LEAVES A SAFE STORE
abbrev pub CallsKeepSafe : Type 0
CallsKeepSafe = (old new : StoreFacts) (who : List ℕ) (call : StoreCall) (answer : Result StoreReply StoreFault) → IsSafe old → Answers old who call answer new → (answer ≡ Err Stopped → ⊥) → IsSafe new

-- START AND RESTORE MAKE A SAFE STORE of such devices. So does FORMAT of any safe disc, if the dumps of the rack survive a power loss already:
-- it doesn't make the rack durable.
pub record MakingIsSafe : Type 0 where
  pub start : (disc : DiscState) (rack : Rack) (adopted : Option ℕ) (new : StoreFacts) → CanBeSafe disc rack → Begun disc rack adopted new → DumpsMadeSafe rack new.rack → IsSafe new
  pub restore : (disc : DiscState) (rack : Rack) (number : ℕ) (new : StoreFacts) → CanBeSafe disc rack → Restored disc rack number new → DumpsMadeSafe rack new.rack → IsSafe new
  pub format : (disc : DiscState) (rack : Rack) (new : StoreFacts) → AllTold disc.held (told_reels rack) → IsDiscSafe disc → ((serial : ℕ) → DumpsSurvive serial rack) → Formats disc rack new → IsSafe new

-- WHAT A POWER LOSS LEAVES IS DURABLE: the disc is safe, and the dumps survive the next power loss.
abbrev pub LeftIsDurable : Type 0
LeftIsDurable = (s : StoreFacts) (blocks : List (List ℕ)) (rack : Rack) → IsLeft s.online.disc s.rack blocks rack → IsDiscSafe (disc_left blocks s.online.disc) × ((serial : ℕ) → DumpsSurvive serial rack)

-- WHAT IS LEFT CAN BE SAFE AGAIN: what a power loss leaves of a safe store, and of a store of which a call was stopped; and what that call left
-- without a power loss.
pub record LeftCanBeSafe : Type 0 where
  pub between : (s : StoreFacts) (blocks : List (List ℕ)) (rack : Rack) → IsSafe s → IsLeft s.online.disc s.rack blocks rack → CanBeSafe (disc_left blocks s.online.disc) rack
  pub stopped : (old new : StoreFacts) (who : List ℕ) (call : StoreCall) (blocks : List (List ℕ)) (rack : Rack) → IsSafe old → Answers old who call (Err Stopped) new → IsLeft new.online.disc new.rack blocks rack
      → CanBeSafe (disc_left blocks new.online.disc) rack
  pub stop : (old new : StoreFacts) (who : List ℕ) (call : StoreCall) → IsSafe old → Answers old who call (Err Stopped) new → CanBeSafe new.online.disc new.rack
