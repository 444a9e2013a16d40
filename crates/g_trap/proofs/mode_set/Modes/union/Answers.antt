-- The bits of two sets below 32 are below 32.
use Rattle.std.proofs.lemmas.Nat.{or_lt}
use Rattle.g_trap.proofs.mode_set.Modes.union.Goals as goal

pub invariant_of-result : goal.invariant_of-result
invariant_of-result c = or_lt 5 _ _ c.self.invariant c.other.invariant
