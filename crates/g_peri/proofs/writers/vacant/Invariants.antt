use Rattle.std.proofs.Common.{◌≡◌, ◌≤◌, None, replicate}
use Rattle.std.specs.Vec.{vec_capacity, vec_len}
use Rattle.g_peri.proofs.writers.vacant.Given as goal

abbrev pub invariant-loop : goal.invariant-loop
invariant-loop g l = (l.places.items ≡ replicate l.counter None) × (vec_len l.places ≡ l.counter) × (l.count ≤ vec_capacity l.places)
