-- The bytes so far follow the name.
use Rattle.std.proofs.Common.{◌≡◌, ◌++◌, take}
use Rattle.g_monitor.proofs.parts.put.Given as goal

abbrev pub invariant-loop-byte : goal.invariant-loop-byte
invariant-loop-byte l = l.name.items ≡ l.fn.name.items ++ take l.byte-index l.bytes
