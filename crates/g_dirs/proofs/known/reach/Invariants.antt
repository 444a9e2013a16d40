use Rattle.std.proofs.Common.{◌≡◌, ◌+◌, ◌++◌, replicate}
use Rattle.std.specs.Vec.{vec_capacity, vec_len}
use Rattle.g_dirs.proofs.known.reach.Given as goal

abbrev pub invariant-loop : goal.invariant-loop
invariant-loop l = (l.blocks.items ≡ l.initial.blocks.items ++ replicate l.counter (replicate 512 0)) × (vec_len l.blocks ≡ vec_len l.initial.blocks + l.counter) × (vec_capacity l.blocks ≡ vec_capacity l.initial.blocks)
