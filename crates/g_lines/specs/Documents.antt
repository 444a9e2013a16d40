-- Documents: consecutive lines in one text, and how many of them were taken.
use Rattle.std.specs.Prelude.{All, ℕ, List, [], drop, length, take, ◌++◌, ◌≡◌, ◌≢◌, ◌≤◌, ◌∷◌}
use Rattle.g_lines.specs.Lines.{lines_of, text_of}

-- In the text every line, also the last, has its byte 10.
abbrev pub IsWhole : List ℕ → Type 0
IsWhole text = text_of (lines_of text) ≡ text

-- The bytes are one line: none of them is a byte 10.
abbrev pub IsOneLine : List ℕ → Type 0
IsOneLine line = All (λ byte. byte ≢ 10) line

-- The lines of a document, and how many of them were taken.
pub record Taking : Type 0 where
  pub lines : List (List ℕ)
  pub taken : ℕ

-- A document of which no line was taken.
abbrev pub untaken : List (List ℕ) → Taking
untaken lines = record { lines = lines; taken = 0 }

-- The document with this number of lines taken.
abbrev pub with_taken : ℕ → Taking → Taking
with_taken taken t = record { lines = t.lines; taken = taken }

-- The lines with one more at the end; the number of lines taken is unchanged.
abbrev pub with_line : List ℕ → Taking → Taking
with_line line t = record { lines = t.lines ++ line ∷ []; taken = t.taken }

-- The lines that weren't taken yet.
abbrev pub lines_left : Taking → List (List ℕ)
lines_left t = drop t.taken t.lines

-- The offset after the lines that were taken: their length in bytes, with their bytes 10.
pub record IsPlace (lines : List (List ℕ)) (taken : ℕ) (at : ℕ) : Type 0 where
  pub within : taken ≤ length lines
  pub bytes : at ≡ length (text_of (take taken lines))
