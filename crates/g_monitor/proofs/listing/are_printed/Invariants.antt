-- The bytes so far are shown unchanged, as long as each of them can be printed.
use Rattle.std.proofs.Common.{IsTrue, take, ◌≡◌}
use Rattle.std.specs.Prelude.{map}
use Rattle.g_monitor.specs.Listing.{shown}
use Rattle.g_monitor.proofs.listing.are_printed.Given as goal

abbrev pub invariant-loop-byte : goal.invariant-loop-byte
invariant-loop-byte l = IsTrue l.printed → map shown (take l.byte-index l.line) ≡ take l.byte-index l.line
