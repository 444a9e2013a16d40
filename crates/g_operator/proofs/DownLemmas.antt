-- A STATE OF DEVICES is down already.
-- serves: AnewLemmas, crates above
use Rattle.std.proofs.Common.{◌≡◌}
use Rattle.g_store_model.specs.CallStep.{down}
use Rattle.g_store_model.specs.State.{State}
use Rattle.g_run_model.specs.Devices.{AreReadAs, Devices}
use Rattle.g_laws_power.proofs.DownLemmas.{devices_down}

pub down_same : (d : Devices) (u : State) → AreReadAs d u → down u ≡ u
down_same d u is = devices_down u is.reads
