use Rattle.std.proofs.Common.{◌∙◌}
use Rattle.g_known.proofs.KnownLemmas.{held_fits}
use Rattle.g_known.proofs.known.KnownReels.find_copy.Goals as goal

pub returns-clause-held : goal.returns-clause-held
returns-clause-held g c =
    let noted = rw c.self.view_is at c.in-Ok.ensures.noted in
    (noted.dumps, noted.found, c.is_held.ensures noted.dumps (c.notes.ensures ∙ noted.notes_are) noted.found.row)

pub returns-clause-fits : goal.returns-clause-fits
returns-clause-fits g c = λ is some.
    let noted = rw c.self.view_is at c.in-Ok.ensures.noted in
    held_fits _ _ noted.dumps _ noted.found some ((c.is_held.ensures noted.dumps (c.notes.ensures ∙ noted.notes_are) noted.found.row).0 is)
