use Rattle.std.proofs.Common.{take}
use Rattle.g_forks.specs.Forks.{HasNoFork}
use Rattle.g_forks.proofs.fork.find_fork.Given as goal

abbrev pub invariant-loop-held : goal.invariant-loop-held
invariant-loop-held l = HasNoFork l.fn.first (take l.held-index l.second)
