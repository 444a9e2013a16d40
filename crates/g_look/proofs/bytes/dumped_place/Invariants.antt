use Rattle.std.proofs.Common.{◌≡◌, ℕ, ◌<◌, None, get_or}
use Rattle.g_entry.specs.declared.file_rec.FileRec.{FileRec}
use Rattle.g_look.proofs.bytes.dumped_place.Given as goal

abbrev pub invariant-loop-of : goal.invariant-loop-of
invariant-loop-of l = (k : ℕ) (d : FileRec) → k < l.of-index → (get_or l.dumped k d).stamp ≡ l.stamp → (get_or l.dumped k d).tape ≡ None
