-- A user exists if a record has the name.
use Rattle.std.proofs.Common.{◌∙◌}
use Rattle.g_tree.proofs.tree.Tree.has_user.Goals as goal

pub returns : goal.returns
returns c = λ bytes next. c.is_some.ensures ∙ c.find_user.ensures.there bytes next
