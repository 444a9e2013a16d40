-- The laws of START: a dump is adopted if and only if its reel has it complete, and the store then holds what the closing commit
-- of the dump would have left.
use Rattle.std.specs.Prelude.{◌≡◌, ℕ, true, Option, Some, None, Result, Ok}
use Rattle.std.specs.FinMap.{empty, get}
use Rattle.g_entry.specs.declared.head.Intent.{Intent}
use Rattle.g_plain.specs.declared.faults.StoreFault.{StoreFault}
use Rattle.g_store_model.specs.State.{State, Holding, OpenDump, Place, ReelRow, reel_at}
use Rattle.g_store_model.specs.CallStep.{Outcome, Plain, down}
use Rattle.g_store_model.specs.DumpSteps.{marked, noted_copy, with_noted}
use Rattle.g_store_model.specs.Rising.{StartStep, other_copy, stands_on}

-- The intent of an open dump.
abbrev pub intent_of : OpenDump → Intent
intent_of d = record { serial = d.serial; place = d.place; number = d.number }

-- For what is held, the copies that the dump's own records name are those that its waiting versions get.
pub record OwnsNoted (d : OpenDump) (k : Holding) : Type 0 where
  pub each : (stamp : ℕ) (p : Place) → get k.places stamp ≡ Some p → other_copy (get d.own stamp) p ≡ noted_copy d stamp p

-- The disc has an intent, and the dump that it names is complete on its reel.
pub record HasItsDump (s : State) (k : Holding) : Type 0 where
  pub intent : Intent
  pub named : k.intent ≡ Some intent
  pub stands : stands_on intent (reel_at intent.serial s.reels) ≡ true

-- The laws of START.
pub record StartsAdopt : Type 0 where
  -- a dump is adopted only if it is complete on the intent's reel
  pub only : (s : State) (k : Holding) (o : Outcome) (number : ℕ) (new : State) → s.holding ≡ Some k → StartStep s o (Ok (Some number)) new → HasItsDump s k
  -- a failed write after the mark is repaired: START leaves what the last step of the dump would have left, with no
  -- user kept
  pub completes : (s : State) (k : Holding) (d : OpenDump) (r : ReelRow) (answer : Result (Option ℕ) StoreFault) (new : State)
      → s.holding ≡ Some k → k.intent ≡ Some (intent_of d) → reel_at d.serial s.reels ≡ Some r → r.mounted ≡ true → OwnsNoted d k
      → StartStep (down (marked d s)) Plain answer new
      → (answer ≡ Ok (Some d.number)) × (new.holding ≡ Some (record k { places = with_noted d k.places; last = d.number; intent = None; kept = empty }))
