use Rattle.std.proofs.Common.{◌≡◌, take}
use Rattle.g_dirs.specs.Rules.{numbers_of}
use Rattle.g_online.proofs.load.collected.Given as goal

abbrev pub invariant-loop-copy : goal.invariant-loop-copy
invariant-loop-copy l = l.places.items ≡ numbers_of (take l.copy-index l.online)
