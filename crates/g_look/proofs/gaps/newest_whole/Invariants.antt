use Rattle.g_look.proofs.GapLemmas.{WholeSoFar}
use Rattle.g_look.proofs.gaps.newest_whole.Given as goal

abbrev pub invariant-loop-one : goal.invariant-loop-one
invariant-loop-one l = WholeSoFar l.found l.one-index l.newest
