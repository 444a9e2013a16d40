use Rattle.std.proofs.Common.{◌≡◌, ℕ, ◌<◌, get_or}
use Rattle.g_power.specs.CutReel.{reel_of}
use Rattle.g_power.specs.declared.cut_reel.CutReel.{CutReel}
use Rattle.g_power.proofs.cut_tapes.place_of.Given as goal

abbrev pub invariant-loop-i : goal.invariant-loop-i
invariant-loop-i l = (k : ℕ) (d : CutReel) → k < l.i → (reel_of (get_or l.reels k d)).serial ≡ l.serial → ⊥
