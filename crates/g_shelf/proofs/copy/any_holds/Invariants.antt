use Rattle.std.proofs.Common.{ℕ, ◌<◌, get_or}
use Rattle.g_incr.specs.declared.note.DumpNote.{DumpNote}
use Rattle.g_shelf.specs.ReaderSteps.{Holds}
use Rattle.g_shelf.proofs.copy.any_holds.Given as goal

abbrev pub invariant-loop-note : goal.invariant-loop-note
invariant-loop-note l = (k : ℕ) (d : DumpNote) → k < l.note-index → Holds (get_or l.notes k d) l.first l.blocks → ⊥
