use Rattle.std.proofs.Common.{ℕ, ◌<◌, get_or}
use Rattle.g_entry.specs.declared.file_rec.FileRec.{FileRec}
use Rattle.g_restore.specs.Places.{IsHeld}
use Rattle.g_look.proofs.records.no_copy.Given as goal

abbrev pub invariant-loop-file : goal.invariant-loop-file
invariant-loop-file l = (k : ℕ) (d : FileRec) → k < l.file-index → IsHeld l.found (get_or l.files k d)
