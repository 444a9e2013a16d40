use Rattle.std.proofs.Common.{◌≡◌, take}
use Rattle.std.specs.Prelude.{filter}
use Rattle.g_process.specs.ProcessPlan.{is_filled}
use Rattle.g_process.proofs.living.filled.Given as goal

abbrev pub invariant-loop-file : goal.invariant-loop-file
invariant-loop-file l = l.all.items ≡ filter is_filled (take l.file-index l.files)
