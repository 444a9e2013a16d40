use Rattle.std.proofs.Common.{◌≡◌, take}
use Rattle.g_mill.proofs.event.Text40.copy.Given as goal

abbrev pub invariant-loop-byte : goal.invariant-loop-byte
invariant-loop-byte l = l.copy ≡ take l.byte-index l.byte-items
