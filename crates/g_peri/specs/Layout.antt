-- The layout of lines in words, and the bytes that a printer prints of them.
use Rattle.std.specs.Prelude.{ℕ, ◌+◌, ◌*◌, ◌==◌, ◌&&◌, List, [], ◌∷◌, length, map, slice_index, slice_set, nat_lt, if◌then◌else◌}
use Rattle.std.specs.List.{range_with_len}
use Rattle.g_word.specs.Characters.{code_of, with_character}
use Rattle.g_mill.specs.Machine.{words_for}

-- The character at place i of a buffer for `count` characters of a line, filled up with spaces.
abbrev pub code_at : List ℕ → ℕ → ℕ → ℕ
code_at line count i = if nat_lt i count && nat_lt i (length line) then code_of (slice_index line i) else 16

-- The word of the four characters from place i on.
abbrev pub packed : List ℕ → ℕ → ℕ → ℕ
packed line count i =
    with_character (with_character (with_character (with_character 0 0 (code_at line count i)) 1 (code_at line count (i + 1))) 2 (code_at line count (i + 2))) 3 (code_at line count (i + 3))

-- The words of a buffer with a line.
abbrev pub line_words : List ℕ → ℕ → List ℕ
line_words line count = map (λ j. packed line count (4 * j)) (range_with_len 0 (words_for count))

-- The words with others written over them, from an address on.
abbrev pub with_words : List ℕ → ℕ → List ℕ → List ℕ
with_words words at [] = words
with_words words at (w ∷ ws) = with_words (slice_set words at w) (at + 1) ws

-- A byte before others, dropped if it is a space and nothing follows.
abbrev pub before_rest : ℕ → List ℕ → List ℕ
before_rest b [] = if b == 32 then [] else b ∷ []
before_rest b (c ∷ rest) = b ∷ c ∷ rest

-- The bytes without trailing spaces.
abbrev pub trimmed : List ℕ → List ℕ
trimmed [] = []
trimmed (b ∷ bytes) = before_rest b (trimmed bytes)
