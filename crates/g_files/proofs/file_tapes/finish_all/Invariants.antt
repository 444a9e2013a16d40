use Rattle.std.proofs.Common.{◌≡◌, ℕ, ◌<◌, OnOk, get_or, length, map}
use Rattle.g_files.specs.FileReel.{IsSaved, reel_file, reel_of}
use Rattle.g_files.specs.Faults.{FailsByFault}
use Rattle.g_files.specs.Reels.{LeaveNoMore, faults_of}
use Rattle.g_files.specs.declared.file_reel.FileReel.{FileReel}
use Rattle.g_files.proofs.file_tapes.finish_all.Given as goal

abbrev pub invariant-loop-i : goal.invariant-loop-i
invariant-loop-i g l =
    (map reel_of l.reels ≡ map reel_of l.fn.reels)
    × (length l.reels ≡ length l.fn.reels)
    × OnOk l.finished ((k : ℕ) (d : FileReel g.row.F.Denot g.F.RawFile) → k < l.i → IsSaved (reel_of (get_or l.reels k d)) (reel_file (get_or l.reels k d)))
    × LeaveNoMore l.fn.reels l.reels
    × FailsByFault l.finished (faults_of l.fn.reels) (faults_of l.reels)
