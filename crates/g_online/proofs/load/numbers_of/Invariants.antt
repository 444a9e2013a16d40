use Rattle.std.proofs.Common.{◌≡◌, map, take}
use Rattle.g_online.proofs.load.numbers_of.Given as goal

abbrev pub invariant-loop-user : goal.invariant-loop-user
invariant-loop-user l = l.numbers ≡ map (λ u. u.number) (take l.user-index l.users)
