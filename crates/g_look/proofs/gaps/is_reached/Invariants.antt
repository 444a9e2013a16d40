use Rattle.std.proofs.Common.{◌≡◌, ℕ, ◌<◌, get_or}
use Rattle.g_restore.specs.declared.dumps.Found.{Found}
use Rattle.g_look.proofs.gaps.is_reached.Given as goal

abbrev pub invariant-loop-one : goal.invariant-loop-one
invariant-loop-one l = (k : ℕ) (d : Found) → k < l.one-index → (get_or l.found k d).dir.note.number < l.last
