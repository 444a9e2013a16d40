use Rattle.std.proofs.Common.{◌≡◌, map, take}
use Rattle.g_process.proofs.living.every_user.Given as goal

abbrev pub invariant-loop-user : goal.invariant-loop-user
invariant-loop-user l = l.all.items ≡ map (λ u. u.number) (take l.user-index l.users)
