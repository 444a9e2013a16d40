use Rattle.std.proofs.Common.{◌≡◌, ℕ, None, take, ◌==◌}
use Rattle.std.specs.Prelude.{find}
use Rattle.g_duplex.specs.declared.twin.Twin.{Twin}
use Rattle.g_duplex.proofs.places.standing_by.Given as goal

abbrev pub invariant-loop-entry : goal.invariant-loop-entry
invariant-loop-entry l = find (λ (entry : ℕ × Twin). entry.0 == l.serial) (take l.entry-index l.lost) ≡ None
