use Rattle.std.proofs.Common.{◌≡◌, ℕ, ◌<◌, get_or}
use Rattle.g_tape.specs.Reel.{Reel}
use Rattle.g_duplex.proofs.places.place_of.Given as goal

abbrev pub invariant-loop-i : goal.invariant-loop-i
invariant-loop-i g l = (k : ℕ) (d : Reel) → k < l.i → (get_or (g.T.Tapes.rack l.rack).reels k d).serial ≡ l.serial → ⊥
