use Rattle.std.proofs.Common.{◌∙◌, arith}
use Rattle.g_shelf.proofs.ReadLemmas.{end_low, noted_end}
use Rattle.g_shelf.proofs.notes.end_of.Goals as goal

pub end_block-requires : goal.end_block-requires
end_block-requires g c =
    let (dumps, read, notes_are) = c.in_ok-notes.ensures.found in
    let low = end_low _ _ dumps _ _ (g.met.T.Tapes.well_formed _) c.in_ok-notes.ensures.reads read in
    let end = noted_end _ dumps _ _ _ read.row notes_are c.deref.ensures.value c.in-Some.ensures.value in
    omega arith

pub returns-in-Some-clause-end : goal.returns-in-Some-clause-end
returns-in-Some-clause-end g c =
    let (dumps, read, notes_are) = c.in_ok-notes.ensures.found in
    (dumps, read, c.end_block.ensures ∙ noted_end _ dumps _ _ _ read.row notes_are c.deref.ensures.value c.in-Some.ensures.value)

pub returns-in-Some-clause-fits : goal.returns-in-Some-clause-fits
returns-in-Some-clause-fits g c = λ r here.
    let (dumps, read, notes_are) = c.in_ok-notes.ensures.found in
    let fits = read.fits r here in
    let end = c.end_block.ensures ∙ noted_end _ dumps _ _ _ read.row notes_are c.deref.ensures.value c.in-Some.ensures.value in
    omega arith
