use Rattle.std.proofs.Common.{◌∙◌, ap}
use Rattle.g_lines.proofs.CursorLemmas.{left_lines, place_left, place_within}
use Rattle.g_lines.specs.Documents.{Taking, lines_left}
use Rattle.g_lines.specs.Lines.{lines_of, text_of}
use Rattle.g_lines.proofs.cursor.Cursor.left.Goals as goal

pub slice_bounds-result-count : goal.slice_bounds-result-count
slice_bounds-result-count c = place_within c.self.inside.document c.self.inside.taken c.self.inside.at c.as_text.result.now c.self.invariant c.as_text.ensures.text

pub slice_bounds-result-start : goal.slice_bounds-result-start
slice_bounds-result-start c = place_within c.self.inside.document c.self.inside.taken c.self.inside.at c.as_text.result.now c.self.invariant c.as_text.ensures.text

pub returns-clause-text : goal.returns-clause-text
returns-clause-text c =
    place_left c.self.inside.document c.self.inside.taken c.self.inside.at c.as_text.result.now c.self.invariant c.as_text.ensures.text
    ∙ ap (λ (t : Taking). text_of (lines_left t)) c.self.view_is

pub returns-clause-lines : goal.returns-clause-lines
returns-clause-lines c =
    ap lines_of (place_left c.self.inside.document c.self.inside.taken c.self.inside.at c.as_text.result.now c.self.invariant c.as_text.ensures.text)
    ∙ left_lines c.self.inside.document c.self.inside.taken c.as_text.result.now c.as_text.ensures.lines
    ∙ ap lines_left c.self.view_is
