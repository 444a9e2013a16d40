-- The numbers of the entries so far.
use Rattle.std.proofs.Common.{◌≡◌, map, take}
use Rattle.g_tree.proofs.sorted.numbers_of.Given as goal

abbrev pub invariant-loop-entry : goal.invariant-loop-entry
invariant-loop-entry l = l.list ≡ map (λ e. e.1) (take l.entry-index l.entries)
