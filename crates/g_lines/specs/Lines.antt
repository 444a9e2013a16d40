-- The lines of a text: each ends with a byte 10, which the last one may be missing.
use Rattle.std.specs.Prelude.{◌==◌, ℕ, List, [], ◌∷◌, ◌++◌, if◌then◌else◌}
use Rattle.std.specs.List.{flat_map}

-- The lines with a byte inserted before the first of them.
abbrev pub onto_first : ℕ → List (List ℕ) → List (List ℕ)
onto_first byte [] = (byte ∷ []) ∷ []
onto_first byte (line ∷ lines) = (byte ∷ line) ∷ lines

-- The lines of a text, without their bytes 10.
abbrev pub lines_of : List ℕ → List (List ℕ)
lines_of [] = []
lines_of (byte ∷ bytes) = if byte == 10 then [] ∷ lines_of bytes else onto_first byte (lines_of bytes)

-- The line with its byte 10.
abbrev pub ended : List ℕ → List ℕ
ended line = line ++ 10 ∷ []

-- The text of these lines, each with its byte 10.
abbrev pub text_of : List (List ℕ) → List ℕ
text_of lines = flat_map ended lines
