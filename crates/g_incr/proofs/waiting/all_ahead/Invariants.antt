use Rattle.g_incr.specs.WaitingFiles.{AreAhead, IsAhead}
use Rattle.g_incr.proofs.waiting.all_ahead.Given as goal

abbrev pub invariant-loop-r : goal.invariant-loop-r
invariant-loop-r l = AreAhead l.files l.r-index l.all.items × IsAhead l.files l.r-index l.ahead
