-- The owner is whom the path names, or the caller.
use Rattle.std.proofs.Common.{ap}
use Rattle.g_plain.proofs.refusals.missing.Goals as goal

pub has_owner-requires-clause-named : goal.has_owner-requires-clause-named
has_owner-requires-clause-named g c = ap (λ f. f.user) c.requires.named
