-- What a power loss leaves of devices of which FORMAT, START or RESTORE made no store.
use Rattle.std.specs.Prelude.{◌≡◌, ℕ, List, Result, Err}
use Rattle.g_disc.specs.Disc.{DiscState}
use Rattle.g_tape.specs.Rack.{Rack}
use Rattle.g_plain.specs.declared.faults.StoreFault.{StoreFault}
use Rattle.g_plain.specs.declared.faults.StoreFault.TheVariants.{Stopped}
use Rattle.g_store_model.specs.State.{State}
use Rattle.g_store_model.specs.CallStep.{Outcome}
use Rattle.g_store_model.specs.Rising.{FormatStep, RestoreStep, StartStep}
use Rattle.g_store_meaning.specs.Meaning.{told_reels}
use Rattle.g_store_meaning.specs.Reading.{DevicesStandFor}
use Rattle.g_store_meaning.specs.Safety.{AreSafe, IsLeft, StandLike}
use Rattle.g_store_meaning.specs.Surviving.{DumpsMadeSafe}
use Rattle.g_store.specs.Making.{RefusesFormat, RefusesRestore, RefusesStart}

-- The step was stopped, and the devices represent a state like one that it may leave then.
pub record StopsDownLike {A : Type 0} (by : State → Outcome → Result A StoreFault → State → Type 0) (s : State) (size : ℕ) (blocks : List (List ℕ)) (rack : Rack) : Type 0 where
  pub outcome : Outcome
  pub after : State
  pub step : by s outcome (Err Stopped) after
  pub stand : StandLike size blocks rack after

-- What a power loss leaves after a refusal: if a failed write stopped the step, a state that it may leave then; otherwise what the loss could
-- have left before.
abbrev pub RefusalLeaves : {A : Type 0} → (State → Outcome → Result A StoreFault → State → Type 0) → State → DiscState → Rack → StoreFault → DiscState → List (List ℕ) → Rack → Type 0
RefusalLeaves by s disc rack Stopped disc' blocks after = StopsDownLike by s disc'.size blocks after
RefusalLeaves by s disc rack fault disc' blocks after = IsLeft disc rack blocks after

-- OF SAFE DEVICES that represented a state, a power loss leaves that if no store was made of them.
pub record RefusalsSurvive : Type 0 where
  pub start : (disc disc' : DiscState) (rack rack' : Rack) (fault : StoreFault) (blocks : List (List ℕ)) (after : Rack) → AreSafe disc rack → RefusesStart disc rack fault disc' rack' → (fault ≡ Stopped → DumpsMadeSafe rack rack')
      → IsLeft disc' rack' blocks after → (s : State) → DevicesStandFor disc.size disc.held (told_reels rack) s → RefusalLeaves StartStep s disc rack fault disc' blocks after
  pub restore : (disc disc' : DiscState) (rack rack' : Rack) (fault : StoreFault) (blocks : List (List ℕ)) (after : Rack) → AreSafe disc rack → RefusesRestore disc rack fault disc' rack' → (fault ≡ Stopped → DumpsMadeSafe rack rack')
      → IsLeft disc' rack' blocks after → (s : State) → DevicesStandFor disc.size disc.held (told_reels rack) s → RefusalLeaves RestoreStep s disc rack fault disc' blocks after
  pub format : (disc disc' : DiscState) (rack rack' : Rack) (fault : StoreFault) (blocks : List (List ℕ)) (after : Rack) → AreSafe disc rack → RefusesFormat disc rack fault disc' rack'
      → IsLeft disc' rack' blocks after → (s : State) → DevicesStandFor disc.size disc.held (told_reels rack) s → RefusalLeaves FormatStep s disc rack fault disc' blocks after
