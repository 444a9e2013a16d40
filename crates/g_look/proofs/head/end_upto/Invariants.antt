use Rattle.std.proofs.Common.{◌≡◌, take}
use Rattle.std.specs.Prelude.{All}
use Rattle.g_look.specs.Heads.{EndsLow, end_upto}
use Rattle.g_look.proofs.head.end_upto.Given as goal

abbrev pub invariant-loop-one : goal.invariant-loop-one
invariant-loop-one l = All EndsLow l.found → l.end ≡ end_upto l.serial l.last 0 (take l.one-index l.found)
