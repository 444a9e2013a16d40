-- The system as a run has it: a store that is up, or devices without a store.
use Rattle.std.specs.Prelude.{◌≡◌, ◌≤◌, ◌++◌, ℕ, false, List, map}
use Rattle.g_disc.specs.Disc.{DiscState}
use Rattle.g_tape.specs.Rack.{Rack}
use Rattle.g_tape.specs.Reel.{Reel}
use Rattle.g_incr.specs.Layout.{Dump}
use Rattle.g_shelf.specs.CompletedDumps.{AreShelved}
use Rattle.g_store_model.specs.State.{State}
use Rattle.g_store_meaning.specs.Meaning.{told_reels}
use Rattle.g_store_meaning.specs.Belonging.{Belong}
use Rattle.g_store_meaning.specs.Reading.{AllTold, StandsForState}
use Rattle.g_store_meaning.specs.Safety.{AreSafe, IsSafe}
use Rattle.g_store_meaning.specs.Answers.{Belongs, Told}
use Rattle.g_store_meaning.specs.StoreInvariant.{StoreFacts}
use Rattle.g_run_model.specs.Devices.{AreReadAs, Devices}
use Rattle.g_day.specs.declared.system.System.{System}
use Rattle.g_day.specs.declared.system.System.TheVariants as systems

-- A store that is up, or the devices of a system that is down.
pub data SystemFacts : Type 0 where
  Up : StoreFacts → SystemFacts
  Down : Devices → SystemFacts

-- A system as contracts see it.
abbrev pub facts_of : {D T : Type 0} → (D → DiscState) → (T → Rack) → System D T → SystemFacts
facts_of disc rack (systems.Up store) = Up store
facts_of disc rack (systems.Down d t) = Down (record { disc = disc d; rack = rack t })

-- The devices of a system.
abbrev pub devices_in : SystemFacts → Devices
devices_in (Up s) = record { disc = s.online.disc; rack = s.rack }
devices_in (Down d) = d

-- The reels of a rack, by serial and capacity.
abbrev pub labels : List Reel → List (ℕ × ℕ)
labels reels = map (λ r. (r.serial, r.capacity)) reels

-- The same devices: a disc of the same size, and the same reels; and no counter of either fell.
pub record SameDevices (old new : Devices) : Type 0 where
  pub size : new.disc.size ≡ old.disc.size
  pub read_faults : old.disc.read_faults ≤ new.disc.read_faults
  pub write_faults : old.disc.write_faults ≤ new.disc.write_faults
  pub writes : old.disc.writes ≤ new.disc.writes
  pub tape_read_faults : old.rack.read_faults ≤ new.rack.read_faults
  pub tape_write_faults : old.rack.write_faults ≤ new.rack.write_faults
  pub reels : labels new.rack.reels ≡ labels old.rack.reels

-- Completed dumps stay: all dumps that are completed on the reels of the first rack are completed on those of the second,
-- each unchanged, possibly followed by more on its reel.
pub record DumpsGrow (old new : Rack) : Type 0 where
  pub grow : (shelf : ℕ → List Dump) → AreShelved shelf (told_reels old) → (more : ℕ → List Dump) × AreShelved (λ s. shelf s ++ more s) (told_reels new)

-- A store that is up isn't spent.
abbrev pub IsRunning : SystemFacts → Type 0
IsRunning (Up s) = s.spent ≡ false
IsRunning (Down d) = Unit {0}

-- The store exposes its contents, disc and rack belong together, and it represents the state.
pub record IsNow (s : StoreFacts) (t : State) : Type 0 where
  pub told : Told s
  pub belongs : Belongs s
  pub stands : StandsForState s t

-- The system represents a state.
abbrev pub StandsAs : SystemFacts → State → Type 0
StandsAs (Up s) t = IsNow s t
StandsAs (Down d) t = (t.up ≡ false) × AreReadAs d t

-- Devices that expose their contents and belong together.
pub record BelongTogether (d : Devices) : Type 0 where
  pub told : AllTold d.disc.held (told_reels d.rack)
  pub belong : Belong d.disc.held d.rack

-- The devices of the system expose their contents and belong together.
abbrev pub SystemBelongs : SystemFacts → Type 0
SystemBelongs (Up s) = Told s × Belongs s
SystemBelongs (Down d) = BelongTogether d

-- The system is safe from a power loss: its store is safe if it is up. If it is down, a safe store can be made on its devices
-- as they are, and on whatever a power loss leaves of them.
abbrev pub SystemSafe : SystemFacts → Type 0
SystemSafe (Up s) = IsSafe s
SystemSafe (Down d) = AreSafe d.disc d.rack
