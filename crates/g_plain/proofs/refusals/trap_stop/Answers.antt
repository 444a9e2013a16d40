-- The owner is whom the path names, or the caller.
use Rattle.std.proofs.Common.{ap}
use Rattle.g_plain.proofs.refusals.trap_stop.Goals as goal

pub is_own-requires : goal.is_own-requires
is_own-requires g c = ap (λ f. f.user) c.requires.named
