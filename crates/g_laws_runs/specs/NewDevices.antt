-- Devices that belong together represent exactly one state; and new devices represent one, which has no filestore.
use Rattle.std.specs.Prelude.{◌≡◌, ℕ, ◌<◌, ◌↔◌, List, None, false}
use Rattle.g_disc.specs.Memory.{blank}
use Rattle.g_store_meaning.specs.Belonging.{Belong}
use Rattle.g_store_meaning.specs.Meaning.{told_reels}
use Rattle.g_store_meaning.specs.Reading.{AllTold}
use Rattle.g_store_model.specs.State.{State}
use Rattle.g_tape.specs.Memory.{IsEmptyRack, Memory}
use Rattle.g_run_model.specs.Devices.{AreReadAs, Devices, StandFor}

-- Devices that expose their contents and belong together don't lack a state, which is down. Therefore what holds for every
-- state that they represent holds for one.
abbrev pub NotStateless : Type 0
NotStateless = (d : Devices) → AllTold d.disc.held (told_reels d.rack) → Belong d.disc.held d.rack → ((s : State) → s.up ≡ false → StandFor d s → ⊥) → ⊥

-- Devices represent at most one state.
abbrev pub StatesAreOne : Type 0
StatesAreOne = (d : Devices) (s t : State) → StandFor d s → StandFor d t → s ≡ t

-- What devices represent is specified in one record. It is equivalent to what the crates of the store say: the devices
-- belong together, and the state is what they are read as.
abbrev pub StandingIsReading : Type 0
StandingIsReading = (d : Devices) (s : State) → StandFor d s ↔ AreReadAs d s

-- A new disc of n blocks of zeros, and a rack of reels with these serials and capacities, each empty and not mounted.
pub record AreNew (n : ℕ) (labels : List (ℕ × ℕ)) (d : Devices) : Type 0 where
  pub memory : Memory
  pub disc : d.disc ≡ (blank n).disc
  pub rack : d.rack ≡ memory.rack
  pub empty : IsEmptyRack labels memory

-- The devices represent a state, which has no filestore.
pub record NewState (d : Devices) : Type 0 where
  pub state : State
  pub stands : StandFor d state
  pub holding : state.holding ≡ None

-- New devices, with a disc of more than 2,177 blocks, represent a state without a filestore.
abbrev pub NewDevicesStand : Type 0
NewDevicesStand = (n : ℕ) (labels : List (ℕ × ℕ)) (d : Devices) → 2177 < n → AreNew n labels d → NewState d
