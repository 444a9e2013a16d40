use Rattle.std.proofs.Common.{sym}
use Rattle.g_plan.proofs.WordLemmas.{before-split, before-whole, front-short}
use Rattle.g_plan.proofs.words.before.Goals as goal

pub returns-in-Some-clause-value : goal.returns-in-Some-clause-value
returns-in-Some-clause-value c = sym (before-split _ _ _ _ c.in-Some.ensures.split.0 c.in-Some.ensures.split.1)

pub returns-in-Some-clause-short : goal.returns-in-Some-clause-short
returns-in-Some-clause-short c = front-short _ _ _ _ c.in-Some.ensures.split.0

pub returns-in-None-clause-value : goal.returns-in-None-clause-value
returns-in-None-clause-value c = sym (before-whole _ _ c.in-None.ensures.split)
