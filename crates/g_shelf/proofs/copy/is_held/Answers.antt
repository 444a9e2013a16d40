use Rattle.g_shelf.proofs.HeldLemmas.{copy_found}
use Rattle.g_shelf.proofs.copy.is_held.Goals as goal

pub returns-else-blocks-eq0 : goal.returns-else-blocks-eq0
returns-else-blocks-eq0 c = λ dumps is row. copy_found dumps _ _ _ _ c.if-blocks-eq0.false c.any_holds.ensures is row
