use Rattle.std.proofs.Common.{refl}
use Rattle.g_slots.proofs.gate.Gate.new.Goals as goal

pub invariant_of-result : goal.invariant_of-result
invariant_of-result c = (0, refl)
