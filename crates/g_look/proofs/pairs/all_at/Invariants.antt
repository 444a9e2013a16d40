use Rattle.std.proofs.Common.{◌≡◌, map, take}
use Rattle.g_look.specs.SeenDumps.{at_found}
use Rattle.g_look.proofs.pairs.all_at.Given as goal

abbrev pub invariant-loop-one : goal.invariant-loop-one
invariant-loop-one l = l.dumps.items ≡ map at_found (take l.one-index l.found)
