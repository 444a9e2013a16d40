use Rattle.std.proofs.Common.{take}
use Rattle.g_blocks.specs.Pool.{HasGiven}
use Rattle.g_online.specs.DumpedVersions.{lost_places}
use Rattle.g_online.proofs.pins.free_orphaned_pins.Given as goal

abbrev pub invariant-loop-pin : goal.invariant-loop-pin
invariant-loop-pin l = HasGiven (lost_places l.files (take l.pin-index l.pins)) l.fn.pool l.pool
