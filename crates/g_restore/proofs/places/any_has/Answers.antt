use Rattle.std.proofs.Common.{arith, refl}
use Rattle.g_restore.proofs.PlaceLemmas.{any_here}
use Rattle.g_restore.proofs.places.any_has.Goals as goal

pub returns-then-has_blocks : goal.returns-then-has_blocks
returns-then-has_blocks c = (λ is. any_here _ _ _ _ _ (omega arith) c.one-item.is (c.has_blocks.ensures.0 c.if-has_blocks.true), λ any. refl)
