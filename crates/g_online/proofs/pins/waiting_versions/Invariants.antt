use Rattle.std.proofs.Common.{[]}
use Rattle.g_online.specs.DumpedVersions.{HasPut, waiting_below}
use Rattle.g_online.proofs.pins.waiting_versions.Given as goal

abbrev pub invariant-loop-owner : goal.invariant-loop-owner
invariant-loop-owner l = HasPut l.serial l.online (waiting_below l.owner l.files) [] l.first l.pins.items l.at
