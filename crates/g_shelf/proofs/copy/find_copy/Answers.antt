use Rattle.std.proofs.Common.{◌∙◌}
use Rattle.g_shelf.proofs.HeldLemmas.{held_fits}
use Rattle.g_shelf.proofs.copy.find_copy.Goals as goal

pub returns-clause-held : goal.returns-clause-held
returns-clause-held g c =
    let (dumps, read, notes_are) = c.in_ok-notes.ensures.found in
    (dumps, read, c.is_held.ensures dumps (c.as_slice.ensures.value ∙ notes_are) read.row)

pub returns-clause-fits : goal.returns-clause-fits
returns-clause-fits g c = λ is some.
    let (dumps, read, notes_are) = c.in_ok-notes.ensures.found in
    held_fits _ _ dumps _ _ read some ((c.is_held.ensures dumps (c.as_slice.ensures.value ∙ notes_are) read.row).0 is)
