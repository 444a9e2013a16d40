use Rattle.g_dirs.proofs.CopyLemmas.{Lying}
use Rattle.g_dirs.proofs.rules.files_lie.Given as goal

abbrev pub invariant-loop-r : goal.invariant-loop-r
invariant-loop-r l = Lying l.files l.online l.r-index l.rest
