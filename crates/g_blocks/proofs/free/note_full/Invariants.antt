use Rattle.std.proofs.Common.{◌≡◌, ℕ, ◌<◌, true, Some, length, slice_get}
use Rattle.std.specs.Prelude.{◌⊎◌}
use Rattle.g_blocks.proofs.free.note_full.Given as goal

abbrev pub invariant-loop-group : goal.invariant-loop-group
invariant-loop-group l =
    (length l.full.items ≡ length l.fn.full.items)
    × ((group : ℕ) → slice_get l.full.items group ≡ Some true → (slice_get l.fn.full.items group ≡ Some true) ⊎ (group < l.end))
