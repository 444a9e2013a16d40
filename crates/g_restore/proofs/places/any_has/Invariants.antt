use Rattle.std.proofs.Common.{ℕ, ◌<◌, get_or}
use Rattle.g_restore.specs.declared.dumps.Found.{Found}
use Rattle.g_restore.specs.Places.{HasBlocks}
use Rattle.g_restore.proofs.places.any_has.Given as goal

abbrev pub invariant-loop-one : goal.invariant-loop-one
invariant-loop-one l = (k : ℕ) (d : Found) → k < l.one-index → HasBlocks l.copy l.blocks (get_or l.found k d) → ⊥
