use Rattle.std.proofs.Common.{◌≡◌, ◌<◌, ℕ, Some, slice_get}
use Rattle.g_entry.specs.declared.user_rec.UserRec.{UserRec}
use Rattle.g_entry.specs.SingleRules.{KeepsPlace}
use Rattle.g_entry.proofs.rules.places_are_kept.Given as goal

abbrev pub invariant-loop-i : goal.invariant-loop-i
invariant-loop-i l = (i : ℕ) (u : UserRec) → i < l.i → slice_get l.users i ≡ Some u → KeepsPlace i u
