-- Lines of a source, split at spaces.
use Rattle.std.specs.Prelude.{ℕ, List, [], ◌∷◌, Bool, true, false, not, ◌&&◌, ◌||◌, ◌==◌, Option, Some, None, drop, filter, length, nat_le, if◌then◌else◌}
use Rattle.std.specs.List.{list_all, slice_split}
use Rattle.g_name.specs.Grammar.{is_digit, is_letter}

-- The byte is printed: from space to tilde.
abbrev pub is_printed : ℕ → Bool
is_printed c = nat_le 32 c && nat_le c 126

-- The byte is a space.
abbrev pub is_space : ℕ → Bool
is_space c = c == 32

-- The text isn't empty.
abbrev pub is_some_text : List ℕ → Bool
is_some_text [] = false
is_some_text (c ∷ cs) = true

-- The words of a text: the non-empty parts between its spaces.
abbrev pub words : List ℕ → List (List ℕ)
words text = filter is_some_text (slice_split is_space text)

-- The part before the first byte of that value, or the whole text if there is none.
abbrev pub before : ℕ → List ℕ → List ℕ
before stop [] = []
before stop (c ∷ cs) = if c == stop then [] else c ∷ before stop cs

-- The part before the first space.
abbrev pub front_of : List ℕ → List ℕ
front_of text = before 32 text

-- The text without its leading spaces.
abbrev pub without_front : List ℕ → List ℕ
without_front [] = []
without_front (c ∷ cs) = if c == 32 then without_front cs else c ∷ cs

-- A byte before others, dropped if it is a space and nothing follows.
abbrev pub before_rest : ℕ → List ℕ → List ℕ
before_rest c [] = if c == 32 then [] else c ∷ []
before_rest c (d ∷ rest) = c ∷ d ∷ rest

-- The text without its trailing spaces.
abbrev pub without_back : List ℕ → List ℕ
without_back [] = []
without_back (c ∷ cs) = before_rest c (without_back cs)

-- The byte is a capital letter or a digit.
abbrev pub is_label_byte : ℕ → Bool
is_label_byte c = is_letter c || is_digit c

-- The text is a label: a letter and up to 7 letters and digits.
abbrev pub is_label : List ℕ → Bool
is_label [] = false
is_label (first ∷ others) = is_letter first && nat_le (length others) 7 && list_all is_label_byte others

-- The text, if it is a label.
abbrev pub label_read : List ℕ → Option (List ℕ)
label_read text = if is_label text then Some text else None

-- THE LABEL OF A LINE, which begins with it; the rest of the line may be bad.
abbrev pub label_in : List ℕ → Option (List ℕ)
label_in line = label_read (front_of line)

-- The rest of a line after its label, or after what is in the place of one.
abbrev pub behind_label : List ℕ → List ℕ
behind_label line = drop (length (front_of line)) line
