use Rattle.std.proofs.Common.{take}
use Rattle.std.specs.Prelude.{All}
use Rattle.g_restore.specs.Places.{IsHeld}
use Rattle.g_restore.proofs.places.first_lost.Given as goal

abbrev pub invariant-loop-i : goal.invariant-loop-i
invariant-loop-i l = All (IsHeld l.found) (take l.i l.files)
