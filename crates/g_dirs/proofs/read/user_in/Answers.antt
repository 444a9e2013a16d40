use Rattle.std.proofs.Common.{refl}
use Rattle.g_dirs.proofs.ReadLemmas.{user_unused_again, user_used_again, user_in_none, user_unused, user_holds}
use Rattle.g_dirs.proofs.read.user_in.Goals as goal

pub returns-then-is_unused-clause-found : goal.returns-then-is_unused-clause-found
returns-then-is_unused-clause-found c = user_unused _ _ _ (c.if-is_unused.ensures.0 refl)

pub returns-in-Some-clause-found : goal.returns-in-Some-clause-found
returns-in-Some-clause-found c = user_holds _ _ _ _ c.in-Some.ensures.found

pub returns-then-is_unused-clause-again : goal.returns-then-is_unused-clause-again
returns-then-is_unused-clause-again c = λ cell holds. let same = user_unused_again _ _ _ (c.if-is_unused.ensures.0 refl) cell holds in cc

pub returns-in-Some-clause-again : goal.returns-in-Some-clause-again
returns-in-Some-clause-again c = λ cell holds. let same = user_used_again _ _ _ _ c.if-is_unused.ensures.1 c.in-Some.ensures.again cell holds in cc

pub returns-in-None-clause-again : goal.returns-in-None-clause-again
returns-in-None-clause-again c = λ cell holds. absurd (user_in_none _ _ _ c.if-is_unused.ensures.1 c.in-None.ensures.again cell holds)
