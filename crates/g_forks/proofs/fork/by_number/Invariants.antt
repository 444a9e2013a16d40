use Rattle.std.proofs.Common.{◌≡◌, ℕ, take}
use Rattle.std.specs.Ordering.{nat_cmp}
use Rattle.std.specs.BTreeMap.{get}
use Rattle.g_forks.specs.Forks.{first_of}
use Rattle.g_forks.proofs.fork.by_number.Given as goal

abbrev pub invariant-loop-dump : goal.invariant-loop-dump
invariant-loop-dump l = (n : ℕ) → get nat_cmp l.numbers n ≡ first_of n (take l.dump-index l.dumps)
