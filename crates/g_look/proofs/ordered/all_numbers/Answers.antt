use Rattle.std.proofs.Common.{arith}
use Rattle.g_look.proofs.NumberLemmas.{user_added_in}
use Rattle.g_look.proofs.ordered.all_numbers.Goals as goal

pub loop-user-preserved : goal.loop-user-preserved
loop-user-preserved c =
    user_added_in _ _ c.users-users.ensures.records _ _ _ _ _ _ c.users-users.ensures.value (omega arith) c.user-item.is c.loop-user.invariant c.in-Ok.ensures
