use Rattle.std.proofs.Common.{◌≡◌, ◌++◌, drop}
use Rattle.std.specs.List.{flat_map}
use Rattle.g_look.specs.Numbers.{all_numbers, numbers_named}
use Rattle.g_look.proofs.ordered.all_numbers.Given as goal

abbrev pub invariant-loop-user : goal.invariant-loop-user
invariant-loop-user l = l.numbers.items ++ flat_map (λ u. numbers_named l.tree.users l.tree.files u.user) (drop l.user-index l.tree.users) ≡ all_numbers l.tree.users l.tree.files
