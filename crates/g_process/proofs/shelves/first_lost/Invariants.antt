use Rattle.std.proofs.Common.{All, take}
use Rattle.g_process.specs.Lists.{IsThere}
use Rattle.g_process.proofs.shelves.first_lost.Given as goal

abbrev pub invariant-loop-file : goal.invariant-loop-file
invariant-loop-file g l = All (IsThere l.online l.lists) (take l.file-index l.files)
