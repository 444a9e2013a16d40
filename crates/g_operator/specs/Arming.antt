-- A device is armed: its fuse is set, and the arming is counted. Nothing changes in what the system represents.
use Rattle.std.specs.Prelude.{◌≡◌, ℕ, Some}
use Rattle.g_base.specs.Fuse.{armed_with}
use Rattle.g_store_model.specs.State.{State}
use Rattle.g_run_model.specs.Devices.{Devices}
use Rattle.g_job_table.specs.Crew.{CrewState}
use Rattle.g_day.specs.Parts.{IsReady}
use Rattle.g_day.specs.Losses.{LeavesLess}
use Rattle.g_day.specs.System.{StandsAs, SystemBelongs, SystemFacts, SystemSafe, devices_in}

-- The devices after the disc was armed with k.
abbrev pub disc_armed : ℕ → Devices → Devices
disc_armed k d = record d { disc = record d.disc { fuse = Some k; arms = armed_with k d.disc.writes d.disc.arms } }

-- The devices after the tapes were armed with k.
abbrev pub tape_armed : ℕ → Devices → Devices
tape_armed k d = record d { rack = record d.rack { fuse = Some k; arms = armed_with k d.rack.write_faults d.rack.arms } }

-- A device was armed. The system represents the same states, and still belongs together, is safe and is ready if it was. A power loss leaves no
-- more of it than before.
pub record HasArmed (armed : Devices → Devices) (old new : SystemFacts) : Type 0 where
  pub devices : devices_in new ≡ armed (devices_in old)
  pub stands : (u : State) → StandsAs old u → StandsAs new u
  pub belongs : SystemBelongs old → SystemBelongs new
  pub safe : SystemSafe old → SystemSafe new
  pub left : LeavesLess old new
  pub ready : (c : CrewState) → IsReady old c → IsReady new c
