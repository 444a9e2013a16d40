use Rattle.std.proofs.Common.{◌≡◌, ℕ, ◌<◌, true, get_or}
use Rattle.g_entry.specs.declared.user_rec.UserRec.{UserRec}
use Rattle.g_incr.specs.Layout.{holds}
use Rattle.g_look.proofs.gaps.holds_all.Given as goal

abbrev pub invariant-loop-user : goal.invariant-loop-user
invariant-loop-user l = (k : ℕ) (d : UserRec) → k < l.user-index → holds l.one.dir.held.items (get_or l.user-items k d).number ≡ true
