use Rattle.std.proofs.Common.{take}
use Rattle.g_incr.specs.Records.{AreUsersIn}
use Rattle.g_incr.proofs.records.users_in.Given as goal

abbrev pub invariant-loop-number : goal.invariant-loop-number
invariant-loop-number l = AreUsersIn l.format l.users.items l.held.items (take l.number l.blocks)
