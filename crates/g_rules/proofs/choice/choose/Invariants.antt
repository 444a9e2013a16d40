use Rattle.g_rules.proofs.Least.{IsBestOf}
use Rattle.g_rules.proofs.choice.choose.Given as goal

abbrev pub invariant-loop-place : goal.invariant-loop-place
invariant-loop-place g l = IsBestOf g.U.Fn l.rule l.list l.place l.best
