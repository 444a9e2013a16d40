-- The copies so far, followed by those of the remaining files.
use Rattle.std.proofs.Common.{◌≡◌, ◌++◌}
use Rattle.g_online.specs.Beginning.{empty_copies}
use Rattle.g_online.proofs.load.empty_copies.Given as goal

abbrev pub invariant-loop-file : goal.invariant-loop-file
invariant-loop-file l = l.online.items ++ empty_copies l.file-iterator ≡ empty_copies l.files
