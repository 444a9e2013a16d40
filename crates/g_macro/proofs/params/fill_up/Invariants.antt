use Rattle.std.proofs.Common.{◌≡◌, ◌≤◌, ◌++◌, ◌-◌, [], replicate}
use Rattle.std.specs.Vec.{vec_capacity, vec_len}
use Rattle.g_macro.specs.Levels.{padded}
use Rattle.g_macro.proofs.params.fill_up.Given as goal

abbrev pub invariant-loop : goal.invariant-loop
invariant-loop l = (l.params.items ++ replicate (24 - l.counter) [] ≡ padded l.initial.params.items) × (vec_len l.params ≡ l.counter) × (24 ≤ vec_capacity l.params)
