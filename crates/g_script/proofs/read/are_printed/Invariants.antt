-- Whether the bytes so far are from space to tilde.
use Rattle.std.proofs.Common.{IsTrue, length, ◌↔◌, ◌≤◌}
use Rattle.g_script.proofs.PrintedLemmas.{ArePlain}
use Rattle.g_script.proofs.read.are_printed.Given as goal

abbrev pub invariant-loop-byte : goal.invariant-loop-byte
invariant-loop-byte l = (l.byte-index ≤ length l.line) × (IsTrue l.printed ↔ ArePlain l.byte-index l.line)
