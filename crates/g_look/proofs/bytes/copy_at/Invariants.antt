use Rattle.std.proofs.Common.{◌≡◌, drop}
use Rattle.g_dirs.specs.Directory.{copy_at}
use Rattle.g_look.proofs.bytes.copy_at.Given as goal

abbrev pub invariant-loop-one : goal.invariant-loop-one
invariant-loop-one l = copy_at l.online l.number ≡ copy_at (drop l.one-index l.online) l.number
