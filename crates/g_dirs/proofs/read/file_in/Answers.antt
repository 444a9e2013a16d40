use Rattle.std.proofs.Common.{refl}
use Rattle.g_dirs.proofs.ReadLemmas.{file_unused_again, file_used_again, file_in_none}
use Rattle.g_dirs.proofs.read.file_in.Goals as goal

pub returns-then-is_unused-clause-again : goal.returns-then-is_unused-clause-again
returns-then-is_unused-clause-again c = λ cell holds. let same = file_unused_again _ _ _ (c.if-is_unused.ensures.0 refl) cell holds in cc

pub returns-in-Some-clause-again : goal.returns-in-Some-clause-again
returns-in-Some-clause-again c = λ cell holds. let same = file_used_again _ _ _ _ c.if-is_unused.ensures.1 c.in-Some.ensures.again cell holds in cc

pub returns-in-None-clause-again : goal.returns-in-None-clause-again
returns-in-None-clause-again c = λ cell holds. absurd (file_in_none _ _ _ c.if-is_unused.ensures.1 c.in-None.ensures.again cell holds)
