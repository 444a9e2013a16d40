-- Parameters substituted into a line.
use Rattle.std.specs.Prelude.{Bool, List, [], codes, drop, if◌then◌else◌, length, nat_le, slice_index_or, ℕ, ◌&&◌, ◌++◌, ◌-◌, ◌==◌, ◌||◌, ◌∷◌}
use Rattle.g_lang.specs.Conditions.{is_param_letter}
use Rattle.g_name.specs.Order.{same_text}

-- The parameter of a letter; the empty text if it is absent.
abbrev pub param_of : List (List ℕ) → ℕ → List ℕ
param_of params letter = slice_index_or params (letter - 65) []

-- The text ends with these bytes.
abbrev pub ends_with : List ℕ → List ℕ → Bool
ends_with text back = nat_le (length back) (length text) && same_text (drop (length text - length back) text) back

-- The line so far ends as a condition that names a parameter; then the name isn't replaced.
abbrev pub is_asked : List ℕ → Bool
is_asked done = ends_with done (codes "PRESENT(") || ends_with done (codes "ABSENT(") || ends_with done (codes "STRING(")

-- What `%` and the next byte become, given the line's bytes before them.
abbrev pub filled : List (List ℕ) → List ℕ → ℕ → List ℕ
filled params done c =
    if c == 37 then 37 ∷ []
    else if is_asked done then 37 ∷ c ∷ []
    else param_of params c

-- The two bytes are replaced: `%%`, or `%` with a parameter's letter.
abbrev pub is_filled : ℕ → ℕ → Bool
is_filled c d = c == 37 && (d == 37 || is_param_letter d)

-- THE LINE AFTER SUBSTITUTION, from left to right: `%%`, `%` with a letter, and single bytes. Substituted text isn't expanded again.
abbrev pub expand : List (List ℕ) → List ℕ → List ℕ → List ℕ
expand params done [] = []
expand params done (c ∷ []) = c ∷ []
expand params done (c ∷ d ∷ rest) =
    if is_filled c d
    then filled params done d ++ expand params (done ++ c ∷ d ∷ []) rest
    else c ∷ expand params (done ++ c ∷ []) (d ∷ rest)

-- The whole line after substitution.
abbrev pub substituted : List (List ℕ) → List ℕ → List ℕ
substituted params line = expand params [] line

-- The first piece of the rest of a line after substitution.
abbrev pub first_filled : List (List ℕ) → List ℕ → List ℕ → List ℕ
first_filled params done [] = []
first_filled params done (c ∷ []) = c ∷ []
first_filled params done (c ∷ d ∷ rest) = if is_filled c d then filled params done d else c ∷ []

-- The length in the line of its first piece.
abbrev pub first_taken : List ℕ → ℕ
first_taken [] = 0
first_taken (c ∷ []) = 1
first_taken (c ∷ d ∷ rest) = if is_filled c d then 2 else 1
