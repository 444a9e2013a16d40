-- Labels, spaces, and the parts between commas.
use Rattle.std.specs.List.{list_all}
use Rattle.std.specs.Prelude.{Bool, List, None, Option, Some, [], false, if◌then◌else◌, length, nat_le, not, pred, replicate, ℕ, ◌&&◌, ◌++◌, ◌+◌, ◌==◌, ◌∷◌}
use Rattle.g_name.specs.Grammar.{is_digit, is_name_char}
use Rattle.g_name.specs.Order.{same_text}

-- The byte is printed: from space to tilde.
abbrev pub is_printed : ℕ → Bool
is_printed c = nat_le 32 c && nat_le c 126

-- The text is a label: a digit and up to 11 of A to Z, 0 to 9 and `-`.
abbrev pub is_label : List ℕ → Bool
is_label [] = false
is_label (first ∷ others) = is_digit first && nat_le (length others) 11 && list_all is_name_char others

-- A text of n spaces.
abbrev pub spaces : ℕ → List ℕ
spaces n = replicate n 32

-- The text without its leading spaces.
abbrev pub without_front : List ℕ → List ℕ
without_front [] = []
without_front (c ∷ cs) = if c == 32 then without_front cs else c ∷ cs

-- A byte before others, dropped if it is a space and nothing follows.
abbrev pub before_rest : ℕ → List ℕ → List ℕ
before_rest c [] = if c == 32 then [] else c ∷ []
before_rest c (d ∷ rest) = c ∷ d ∷ rest

-- The text without its trailing spaces.
abbrev pub without_back : List ℕ → List ℕ
without_back [] = []
without_back (c ∷ cs) = before_rest c (without_back cs)

-- The text without the spaces at both ends.
abbrev pub trimmed : List ℕ → List ℕ
trimmed text = without_back (without_front text)

-- The part of a text before its first space.
abbrev pub word_of : List ℕ → List ℕ
word_of [] = []
word_of (c ∷ cs) = if c == 32 then [] else c ∷ word_of cs

-- The label of a line: its first word, if that is a label.
abbrev pub label_in : List ℕ → Option (List ℕ)
label_in text = if is_label (word_of (without_front text)) then Some (word_of (without_front text)) else None

-- The line's label is this one.
abbrev pub is_that_label : List ℕ → Option (List ℕ) → Bool
is_that_label label None = false
is_that_label label (Some other) = same_text other label

-- The line begins with this label.
abbrev pub has_label : List ℕ → List ℕ → Bool
has_label label line = is_that_label label (label_in line)

-- The text is a part between commas: its brackets match, beginning at this depth, and it has no comma outside of them.
abbrev pub is_part : ℕ → List ℕ → Bool
is_part depth [] = depth == 0
is_part depth (c ∷ cs) =
    if c == 40 then is_part (depth + 1) cs
    else if c == 41 then not (depth == 0) && is_part (pred depth) cs
    else is_printed c && not (c == 44 && depth == 0) && is_part depth cs

-- The parts with commas between them.
abbrev pub joined : List (List ℕ) → List ℕ
joined [] = []
joined (part ∷ []) = part
joined (part ∷ more ∷ parts) = part ++ 44 ∷ joined (more ∷ parts)

-- The last of these bytes is no space.
abbrev pub ends_well : ℕ → List ℕ → Bool
ends_well c [] = not (c == 32)
ends_well c (d ∷ ds) = ends_well d ds

-- The text isn't empty, and has no space at either end.
abbrev pub is_trimmed : List ℕ → Bool
is_trimmed [] = false
is_trimmed (c ∷ cs) = not (c == 32) && ends_well c cs
