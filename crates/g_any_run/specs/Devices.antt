-- The devices of a run.
use Rattle.g_disc.specs.Disc.{DiscState}
use Rattle.g_tape.specs.Rack.{Rack}

-- Both devices.
pub record Devices : Type 0 where
  pub disc : DiscState
  pub rack : Rack
