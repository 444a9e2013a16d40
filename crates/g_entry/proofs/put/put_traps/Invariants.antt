use Rattle.std.proofs.Common.{◌≡◌, ◌+◌, ◌*◌, ◌∷◌, [], ◌++◌, length, take}
use Rattle.std.specs.List.{flat_map}
use Rattle.g_entry.proofs.put.put_traps.Given as goal

-- the pairs so far, of two bytes each
abbrev pub invariant-loop-user : goal.invariant-loop-user
invariant-loop-user l = record {
  fields : l.writer ≡ l.initial.writer ++ flat_map (λ pair. pair.0 ∷ pair.1 ∷ []) (take l.user-index l.others);
  len : length l.writer ≡ length l.initial.writer + 2 * l.user-index;
}
