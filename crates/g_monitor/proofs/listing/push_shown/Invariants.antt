-- The bytes that were shown follow `| `.
use Rattle.std.proofs.Common.{◌≡◌, ◌++◌, take}
use Rattle.std.specs.Prelude.{map, codes}
use Rattle.g_monitor.specs.Listing.{shown}
use Rattle.g_monitor.proofs.listing.push_shown.Given as goal

abbrev pub invariant-loop-byte : goal.invariant-loop-byte
invariant-loop-byte l = l.text ≡ (l.fn.text ++ codes "| ") ++ map shown (take l.byte-index l.line)
