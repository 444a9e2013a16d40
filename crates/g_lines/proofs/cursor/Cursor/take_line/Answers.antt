use Rattle.std.proofs.Common.{◌≡◌, ◌<◌, ◌-◌, ◌∙◌, ap, sym, arith, drop, length, take}
use Rattle.g_lines.proofs.CursorLemmas.{first_left, left_lines, left_some, place_left, place_next, place_within}
use Rattle.g_lines.proofs.DocumentLemmas.{lines_few}
use Rattle.g_lines.specs.Documents.{Taking}
use Rattle.g_lines.specs.Lines.{lines_of}
use Rattle.g_lines.proofs.cursor.Cursor.take_line.Goals as goal

pub slice_bounds-split_line-count : goal.slice_bounds-split_line-count
slice_bounds-split_line-count c = place_within c.self.inside.document c.self.inside.taken c.self.inside.at c.as_text-text.result.now c.self.invariant c.as_text-text.ensures.text

pub slice_bounds-split_line-start : goal.slice_bounds-split_line-start
slice_bounds-split_line-start c = place_within c.self.inside.document c.self.inside.taken c.self.inside.at c.as_text-text.result.now c.self.invariant c.as_text-text.ensures.text

pub split_line-requires : goal.split_line-requires
split_line-requires c =
    let inside : c.self.inside.taken < length c.self.inside.document = omega (arith, c.requires, ap (λ (t : Taking). t.taken) c.self.view_is, ap (λ (t : Taking). length t.lines) c.self.view_is) in
    omega (
      arith,
      left_some c.self.inside.document c.self.inside.taken inside,
      ap length (place_left c.self.inside.document c.self.inside.taken c.self.inside.at c.as_text-text.result.now c.self.invariant c.as_text-text.ensures.text),
    )

pub overflow_add-self-3 : goal.overflow_add-self-3
overflow_add-self-3 c =
    let inside : c.self.inside.taken < length c.self.inside.document = omega (arith, c.requires, ap (λ (t : Taking). t.taken) c.self.view_is, ap (λ (t : Taking). length t.lines) c.self.view_is) in
    omega (arith, inside, lines_few c.as_text-text.result.now, ap length c.as_text-text.ensures.lines, c.as_text-text.type_inv)

pub invariant_of-self : goal.invariant_of-self
invariant_of-self c =
    let inside : c.self.inside.taken < length c.self.inside.document = omega (arith, c.requires, ap (λ (t : Taking). t.taken) c.self.view_is, ap (λ (t : Taking). length t.lines) c.self.view_is) in
    let left : lines_of (take (length c.as_text-text.result.now - c.self.inside.at) (drop c.self.inside.at c.as_text-text.result.now)) ≡ drop c.self.inside.taken c.self.inside.document =
    ap lines_of (place_left c.self.inside.document c.self.inside.taken c.self.inside.at c.as_text-text.result.now c.self.invariant c.as_text-text.ensures.text)
    ∙ left_lines c.self.inside.document c.self.inside.taken c.as_text-text.result.now c.as_text-text.ensures.lines in
    place_next c.self.inside.document c.self.inside.taken c.self.inside.at c.split_line.result.0.now c.self.invariant inside
    (first_left c.self.inside.document (lines_of c.split_line.result.1.now) c.self.inside.taken c.split_line.result.0.now (sym left ∙ c.split_line.ensures))
