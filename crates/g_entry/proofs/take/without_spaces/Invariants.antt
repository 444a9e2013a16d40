use Rattle.std.proofs.Common.{◌≡◌, ◌++◌, take, drop}
use Rattle.g_entry.proofs.FieldLemmas.{before_space}
use Rattle.g_entry.proofs.take.without_spaces.Given as goal

abbrev pub invariant-loop-at : goal.invariant-loop-at
invariant-loop-at l = before_space l.field ≡ take l.at l.field ++ before_space (drop l.at l.field)
