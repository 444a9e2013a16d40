use Rattle.g_incr.proofs.RuleLemmas.{HaveFollowed}
use Rattle.g_incr.proofs.rules.follow_on.Given as goal

abbrev pub invariant-loop-r : goal.invariant-loop-r
invariant-loop-r l = HaveFollowed l.serial l.from l.to l.files l.r-index l.at
