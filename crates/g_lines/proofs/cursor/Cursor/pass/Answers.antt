use Rattle.std.proofs.Common.{List, ℕ, ◌≡◌, ◌≤◌, ◌+◌, ◌∙◌, ap, arith, drop, length, sym, take}
use Rattle.g_lines.proofs.CursorLemmas.{place_inside, place_pass}
use Rattle.g_lines.proofs.DocumentLemmas.{lines_few}
use Rattle.g_lines.specs.Documents.{IsPlace, Taking, lines_left}
use Rattle.g_lines.specs.Lines.{text_of}
use Rattle.g_lines.proofs.cursor.Cursor.pass.Goals as goal

-- the offset after these lines, by the fields of the cursor
come : (lines : List (List ℕ)) (taken at count bytes : ℕ) (now : Taking) → record { lines = lines; taken = taken } ≡ now → IsPlace lines taken at → count ≤ length (lines_left now) → bytes ≡ length (text_of (take count (lines_left now)))
    → IsPlace lines (taken + count) (at + bytes)
come lines taken at count bytes now is place within bytes_are =
    place_pass lines taken at count bytes place
    (omega (arith, within, ap (λ (t : Taking). length (lines_left t)) is))
    (bytes_are ∙ ap (λ (t : Taking). length (text_of (take count (lines_left t)))) (sym is))

pub overflow_add-self : goal.overflow_add-self
overflow_add-self c =
    let behind = come c.self.inside.document c.self.inside.taken c.self.inside.at c.args.lines c.args.bytes c.args.self.now c.self.view_is c.self.invariant c.requires.within c.requires.bytes in
    omega (arith, place_inside c.self.inside.document (c.self.inside.taken + c.args.lines) (c.self.inside.at + c.args.bytes) behind, ap length c.as_text-text.ensures.text, c.as_text-text.type_inv)

pub overflow_add-self-2 : goal.overflow_add-self-2
overflow_add-self-2 c =
    let behind = come c.self.inside.document c.self.inside.taken c.self.inside.at c.args.lines c.args.bytes c.args.self.now c.self.view_is c.self.invariant c.requires.within c.requires.bytes in
    omega (arith, behind.within, lines_few c.as_text-text.result.now, ap length c.as_text-text.ensures.lines, c.as_text-text.type_inv)

pub invariant_of-self : goal.invariant_of-self
invariant_of-self c = come c.self.inside.document c.self.inside.taken c.self.inside.at c.args.lines c.args.bytes c.args.self.now c.self.view_is c.self.invariant c.requires.within c.requires.bytes
