use Rattle.std.proofs.Common.{◌≡◌, ℕ, ◌<◌, get_or}
use Rattle.g_files.specs.FileReel.{reel_of}
use Rattle.g_files.specs.declared.file_reel.FileReel.{FileReel}
use Rattle.g_files.proofs.file_tapes.place_of.Given as goal

abbrev pub invariant-loop-i : goal.invariant-loop-i
invariant-loop-i g l = (k : ℕ) (d : FileReel g.row.F.Denot g.F.RawFile) → k < l.i → (reel_of (get_or l.reels k d)).serial ≡ l.serial → ⊥
