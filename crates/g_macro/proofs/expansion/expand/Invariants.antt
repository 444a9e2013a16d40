use Rattle.std.proofs.Common.{◌-◌, length}
use Rattle.g_macro.proofs.FrontLemmas.{UpTo}
use Rattle.g_macro.proofs.expansion.expand.Given as goal

abbrev pub invariant-loop-at : goal.invariant-loop-at
invariant-loop-at l = UpTo l.params l.line l.at l.front

abbrev pub decreases-loop-at : goal.decreases-loop-at
decreases-loop-at l = length l.line - l.at
