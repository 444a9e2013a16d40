-- The extent of a document that begins with the lines that are left, and the place of a line with a label.
use Rattle.std.specs.Prelude.{List, Some, length, take, ℕ, ◌≡◌, ◌<◌}
use Rattle.g_lines.specs.Lines.{text_of}
use Rattle.g_macro.specs.Levels.{before_closing, line_of_label, passed}
use Rattle.g_macro.specs.declared.level.LinePlace.{LinePlace}
use Rattle.g_macro.specs.declared.level.Span.{Span}

-- The length in bytes of the document's lines, and the lines that are taken for it, with their bytes.
pub record IsSpan (left : List (List ℕ)) (span : Span) : Type 0 where
  pub document : span.document ≡ length (text_of (before_closing left))
  pub lines : span.lines ≡ passed left
  pub bytes : span.bytes ≡ length (text_of (take (passed left) left))

-- The first line with the label: the number of lines before it, and their length with their bytes 10.
pub record IsLinePlace (label : List ℕ) (lines : List (List ℕ)) (place : LinePlace) : Type 0 where
  pub line : line_of_label label lines ≡ Some place.lines
  pub within : place.lines < length lines
  pub bytes : place.bytes ≡ length (text_of (take place.lines lines))
