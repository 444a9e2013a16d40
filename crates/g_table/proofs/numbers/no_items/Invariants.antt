use Rattle.std.proofs.Common.{◌≡◌, ◌≤◌, None, replicate}
use Rattle.std.specs.Vec.{vec_capacity, vec_len}
use Rattle.g_table.proofs.numbers.no_items.Given as goal

abbrev pub invariant-loop : goal.invariant-loop
invariant-loop g l = (l.places.items ≡ replicate l.counter None) × (vec_len l.places ≡ l.counter) × (1024 ≤ vec_capacity l.places)
