use Rattle.g_incr.proofs.RuleLemmas.{HaveRisen}
use Rattle.g_incr.proofs.rules.owners_rise.Given as goal

abbrev pub invariant-loop-r : goal.invariant-loop-r
invariant-loop-r l = HaveRisen l.files l.r-index l.last
