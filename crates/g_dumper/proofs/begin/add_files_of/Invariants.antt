-- The files so far, followed by those of this user that remain.
use Rattle.std.proofs.Common.{◌≡◌, ◌++◌}
use Rattle.g_store_meaning.specs.Meaning.{files_of}
use Rattle.g_dumper.proofs.begin.add_files_of.Given as goal

abbrev pub invariant-loop-file : goal.invariant-loop-file
invariant-loop-file l = l.all.items ++ files_of l.owner l.file-iterator ≡ l.fn.all.items ++ files_of l.owner l.files
