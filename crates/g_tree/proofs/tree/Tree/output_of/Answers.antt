-- The full name is looked up.
use Rattle.std.proofs.Common.{refl, sym}
use Rattle.g_tree.proofs.tree.Tree.output_of.Goals as goal

pub returns-in-Some : goal.returns-in-Some
returns-in-Some c = sym c.in-Some.ensures.number

pub returns-in-None : goal.returns-in-None
returns-in-None c = (sym c.in-None.ensures.number, refl)
