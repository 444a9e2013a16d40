use Rattle.g_shelf.proofs.WalkLemmas.{notes_read}
use Rattle.g_shelf.proofs.notes.completed.Goals as goal

pub returns-in-Ok-clause-found : goal.returns-in-Ok-clause-found
returns-in-Ok-clause-found g c = notes_read _ _ _ _ _ c.new-notes.ensures.items c.in-Ok.ensures.more
