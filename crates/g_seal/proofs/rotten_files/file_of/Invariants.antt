use Rattle.std.proofs.Common.{◌≡◌, drop}
use Rattle.g_seal.specs.InMemory.{rec_of}
use Rattle.g_seal.proofs.rotten_files.file_of.Given as goal

abbrev pub invariant-loop-file : goal.invariant-loop-file
invariant-loop-file l = rec_of l.files l.stamp ≡ rec_of (drop l.file-index l.files) l.stamp
