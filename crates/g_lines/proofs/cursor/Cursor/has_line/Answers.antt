use Rattle.std.proofs.Common.{◌∙◌, ap, length, nat_lt}
use Rattle.g_lines.proofs.CursorLemmas.{place_has}
use Rattle.g_lines.specs.Documents.{Taking}
use Rattle.g_lines.proofs.cursor.Cursor.has_line.Goals as goal

pub returns : goal.returns
returns c =
    place_has c.self.inside.document c.self.inside.taken c.self.inside.at c.as_text.result.now c.self.invariant c.as_text.ensures.text
    ∙ ap (λ (t : Taking). nat_lt t.taken (length t.lines)) c.self.view_is
