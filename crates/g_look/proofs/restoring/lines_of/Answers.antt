use Rattle.g_look.proofs.NumberLemmas.{dumped_text_is}
use Rattle.g_look.proofs.restoring.lines_of.Goals as goal

pub returns-in-Ok-tree_text-clause-text : goal.returns-in-Ok-tree_text-clause-text
returns-in-Ok-tree_text-clause-text c = dumped_text_is _ _ _ _ _ _ _ c.requires.records c.in-Ok.ensures.users c.in-Ok.ensures.files c.in-Ok-tree_text.ensures
