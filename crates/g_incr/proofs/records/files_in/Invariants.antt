use Rattle.std.proofs.Common.{take}
use Rattle.g_incr.specs.Records.{AreFilesIn}
use Rattle.g_incr.proofs.records.files_in.Given as goal

abbrev pub invariant-loop-number : goal.invariant-loop-number
invariant-loop-number l = AreFilesIn l.format l.files.items (take l.number l.blocks)
