use Rattle.std.proofs.Common.{◌≤◌, ◌∙◌, ap, arith, length, length-take-le, sym}
use Rattle.std.proofs.lemmas.List.{length-drop}
use Rattle.g_lines.specs.Documents.{Taking}
use Rattle.g_lines.specs.Lines.{lines_of, text_of}
use Rattle.g_macro.specs.Levels.{Level, before_closing, lines_left}
use Rattle.g_macro.proofs.PlaceLemmas.{document-inside, document-is, passed-within}
use Rattle.g_macro.proofs.level.Level.take_document.Goals as goal

pub slice_bounds-from_slice-end : goal.slice_bounds-from_slice-end
slice_bounds-from_slice-end c =
    let left = c.left-left.result.now in
    sym (length-take-le c.span_of-span.result.document left (document-inside left _ c.span_of-span.result.document c.left-left.ensures.text c.left-left.ensures.lines c.span_of-span.ensures.document))

pub pass-requires-clause-within : goal.pass-requires-clause-within
pass-requires-clause-within c = omega (arith, c.span_of-span.ensures.lines, passed-within (lines_of c.left-left.result.now), ap length c.left-left.ensures.lines)

pub invariant_of-self : goal.invariant_of-self
invariant_of-self c =
    let old = c.self.inside.cursor in
    record {
      params = c.self.invariant.params;
      taken =
          let before : old.taken ≤ length old.lines = c.self.invariant.taken in
          omega (
            arith,
            before,
            c.span_of-span.ensures.lines,
            passed-within (lines_of c.left-left.result.now),
            ap length c.left-left.ensures.lines,
            length-drop old.taken old.lines,
            ap (λ (t : Taking). t.taken) c.pass.ensures,
            ap (λ (t : Taking). length t.lines) c.pass.ensures,
          );
      entries = c.self.invariant.entries;
      commands = c.self.invariant.commands;
    }

pub returns-clause-text : goal.returns-clause-text
returns-clause-text c =
    c.in_ok-text.ensures
    ∙ document-is c.left-left.result.now _ c.span_of-span.result.document c.left-left.ensures.text c.left-left.ensures.lines c.span_of-span.ensures.document
    ∙ ap (λ (l : Level). text_of (before_closing (lines_left l))) c.self.view_is
