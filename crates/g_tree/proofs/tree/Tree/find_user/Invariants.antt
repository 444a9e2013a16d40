-- The user is among the remaining ones, if it exists.
use Rattle.std.proofs.Common.{◌≡◌, drop}
use Rattle.std.specs.FinMap.{find}
use Rattle.g_name.specs.Order.{text_cmp}
use Rattle.g_tree.proofs.MapLemmas.{keyed}
use Rattle.g_tree.proofs.tree.Tree.find_user.Given as goal

abbrev pub invariant-loop-user : goal.invariant-loop-user
invariant-loop-user l = find text_cmp l.name (keyed (λ u. u.user) (drop l.user-index l.user-items)) ≡ find text_cmp l.name (keyed (λ u. u.user) l.self.users)
