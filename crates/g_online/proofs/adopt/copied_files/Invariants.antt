-- The files so far, followed by those that remain.
use Rattle.std.proofs.Common.{◌≡◌, ◌++◌, map}
use Rattle.g_disc_contents.specs.Contents.{copied_rec}
use Rattle.g_online.proofs.adopt.copied_files.Given as goal

abbrev pub invariant-loop-file : goal.invariant-loop-file
invariant-loop-file l = l.copied.items ++ map (copied_rec l.copies) l.file-iterator ≡ map (copied_rec l.copies) l.files
