use Rattle.g_restore.specs.Gathering.{IsBestOf}
use Rattle.g_restore.proofs.gather.greatest.Given as goal

abbrev pub invariant-loop-i : goal.invariant-loop-i
invariant-loop-i l = IsBestOf l.user l.found l.i l.best
