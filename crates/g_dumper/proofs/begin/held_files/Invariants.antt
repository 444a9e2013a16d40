use Rattle.std.proofs.Common.{◌≡◌, take}
use Rattle.g_dumper.specs.Beginning.{held_of}
use Rattle.g_dumper.proofs.begin.held_files.Given as goal

abbrev pub invariant-loop-owner : goal.invariant-loop-owner
invariant-loop-owner l = l.all.items ≡ held_of (take l.owner-index l.held) l.files
