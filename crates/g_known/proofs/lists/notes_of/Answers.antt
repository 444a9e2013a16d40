use Rattle.std.proofs.Common.{◌∙◌, sym}
use Rattle.g_known.proofs.KnownLemmas.{noted_nowhere}
use Rattle.g_known.proofs.lists.notes_of.Goals as goal

pub returns-in-Some : goal.returns-in-Some
returns-in-Some c = c.as_slice.ensures.value ∙ sym (c.in-Some.ensures.there _)

pub returns-in-None : goal.returns-in-None
returns-in-None c = sym (noted_nowhere _ _ c.in-None.ensures)
