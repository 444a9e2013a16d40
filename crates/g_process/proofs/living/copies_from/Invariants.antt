use Rattle.std.proofs.Common.{◌≡◌, ◌+◌, take}
use Rattle.g_incr.specs.Plan.{blocks_of}
use Rattle.g_process.specs.ProcessPlan.{copies_from}
use Rattle.g_process.proofs.living.copies_from.Given as goal

abbrev pub invariant-loop-version : goal.invariant-loop-version
invariant-loop-version l =
    (l.copies.items ≡ copies_from l.serial l.first (take l.version-index l.versions)) × (l.at ≡ l.first + blocks_of (take l.version-index l.versions))
