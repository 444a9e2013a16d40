use Rattle.std.proofs.Common.{◌≡◌, take}
use Rattle.g_online.specs.DumpedVersions.{noted_in}
use Rattle.g_online.proofs.pin_list.notes_of.Given as goal

abbrev pub invariant-loop-pin : goal.invariant-loop-pin
invariant-loop-pin l = l.notes.items ≡ noted_in (take l.pin-index l.versions)
