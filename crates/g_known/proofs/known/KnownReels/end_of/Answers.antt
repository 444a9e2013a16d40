use Rattle.std.proofs.Common.{◌≡◌, ◌∙◌, ap, arith}
use Rattle.g_shelf.specs.CompletedDumps.{end_of}
use Rattle.g_known.specs.ReelNotes.{end_in}
use Rattle.g_known.proofs.KnownLemmas.{found_low, noted_end}
use Rattle.g_known.proofs.known.KnownReels.end_of.Goals as goal

pub overflow_cast-result : goal.overflow_cast-result
overflow_cast-result g c =
    let noted = c.in-Ok.ensures.noted in
    let low = found_low _ _ noted.dumps _ _ (g.met.T.Tapes.well_formed _) c.in-Ok.ensures.reads noted.found in
    let end : c.end.result ≡ end_of noted.dumps = c.end.ensures ∙ ap (end_in 0) c.notes.ensures ∙ noted_end _ _ _ noted in
    omega arith

pub returns-clause-end : goal.returns-clause-end
returns-clause-end g c =
    let noted = rw c.self.view_is at c.in-Ok.ensures.noted in
    (noted.dumps, noted.found, c.end.ensures ∙ ap (end_in 0) c.notes.ensures ∙ noted_end _ _ _ noted)

pub returns-clause-fits : goal.returns-clause-fits
returns-clause-fits g c = λ r here.
    let noted = rw c.self.view_is at c.in-Ok.ensures.noted in
    let fits = noted.found.fits r here in
    let end : c.end.result ≡ end_of noted.dumps = c.end.ensures ∙ ap (end_in 0) c.notes.ensures ∙ noted_end _ _ _ noted in
    omega arith
