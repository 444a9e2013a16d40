use Rattle.std.specs.Prelude.{take}
use Rattle.g_restore.specs.Gathering.{ArePut}
use Rattle.g_restore.proofs.gather.gather_at_once.Given as goal

abbrev pub invariant-loop-user : goal.invariant-loop-user
invariant-loop-user l = ArePut l.found (take l.user-index l.users) l.files.items
