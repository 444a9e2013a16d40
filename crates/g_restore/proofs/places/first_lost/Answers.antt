use Rattle.std.proofs.Common.{arith}
use Rattle.g_restore.proofs.PlaceLemmas.{first_not_held, one_held}
use Rattle.g_restore.proofs.places.first_lost.Goals as goal

pub loop-i-preserved : goal.loop-i-preserved
loop-i-preserved c = one_held _ _ _ _ (omega arith) c.index-files-i.is c.loop-i.invariant c.in-None.ensures.none

pub returns-in-Some-clause-some : goal.returns-in-Some-clause-some
returns-in-Some-clause-some c = first_not_held _ _ _ _ _ (omega arith) c.index-files-i.is c.loop-i.invariant c.in-Some.ensures.copy c.in-Some.ensures.lost
