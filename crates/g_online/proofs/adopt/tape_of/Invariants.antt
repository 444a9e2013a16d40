use Rattle.std.proofs.Common.{◌≡◌, drop}
use Rattle.g_disc_contents.specs.Contents.{copy_of}
use Rattle.g_online.proofs.adopt.tape_of.Given as goal

abbrev pub invariant-loop-copy : goal.invariant-loop-copy
invariant-loop-copy l = copy_of l.copies l.stamp l.old ≡ copy_of (drop l.copy-index l.copies) l.stamp l.old
