use Rattle.std.proofs.Common.{ℕ, ◌<◌, get_or}
use Rattle.g_entry.specs.declared.file_rec.FileRec.{FileRec}
use Rattle.g_look.specs.Recs.{HasSameLengths}
use Rattle.g_look.proofs.records.other_length.Given as goal

abbrev pub invariant-loop-file : goal.invariant-loop-file
invariant-loop-file l = (k : ℕ) (d : FileRec) → k < l.file-index → HasSameLengths l.dumped (get_or l.files k d)
