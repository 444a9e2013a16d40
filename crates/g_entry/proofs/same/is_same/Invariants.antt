-- Whether the bytes so far are the same.
use Rattle.std.proofs.Common.{◌↔◌, IsTrue}
use Rattle.g_entry.proofs.SameLemmas.{Agree}
use Rattle.g_entry.proofs.same.is_same.Given as goal

abbrev pub invariant-loop-i : goal.invariant-loop-i
invariant-loop-i l = IsTrue l.same ↔ Agree l.i l.one l.other
