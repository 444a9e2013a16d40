use Rattle.std.proofs.Common.{◌≡◌, ℕ, ◌<◌, get_or}
use Rattle.g_known.specs.declared.lists.NotedReel.{NotedReel}
use Rattle.g_known.proofs.lists.place_of.Given as goal

abbrev pub invariant-loop-i : goal.invariant-loop-i
invariant-loop-i l = (k : ℕ) (d : NotedReel) → k < l.i → (get_or l.lists k d).serial ≡ l.serial → ⊥
