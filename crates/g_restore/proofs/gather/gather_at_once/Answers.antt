use Rattle.std.proofs.Common.{arith}
use Rattle.g_restore.proofs.GatherLemmas.{all_put, one_put}
use Rattle.g_restore.proofs.gather.gather_at_once.Goals as goal

pub loop-user-preserved : goal.loop-user-preserved
loop-user-preserved c = one_put _ _ _ _ _ _ (omega arith) c.user-item.is c.loop-user.invariant (c.in-Ok-true.ensures.some c.in-Ok-true.field-0-test)

pub returns-then-branch-clause-put : goal.returns-then-branch-clause-put
returns-then-branch-clause-put c = all_put _ _ _ _ (omega arith) c.loop-user.invariant
