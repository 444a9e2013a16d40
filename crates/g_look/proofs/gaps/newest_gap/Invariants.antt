use Rattle.g_look.proofs.GapLemmas.{HasWalked}
use Rattle.g_look.proofs.gaps.newest_gap.Given as goal

abbrev pub invariant-loop-dump : goal.invariant-loop-dump
invariant-loop-dump l = HasWalked l.dumps l.from l.dump-index l.reached l.gap
