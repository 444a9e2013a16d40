use Rattle.std.proofs.Common.{◌≡◌, take}
use Rattle.g_table.proofs.file_table.FileTable.of.Given as goal

abbrev pub invariant-loop-file : goal.invariant-loop-file
invariant-loop-file l = l.table ≡ take l.file-index l.files
