-- The texts of user names, local names and languages, as bytes.
use Rattle.std.specs.Prelude.{ℕ, Bool, false, ◌&&◌, ◌||◌, ◌==◌, nat_le, List, [], ◌∷◌, length}
use Rattle.std.specs.List.{list_all}

-- The byte is one of A to Z.
abbrev pub is_letter : ℕ → Bool
is_letter c = nat_le 65 c && nat_le c 90

-- The byte is one of 0 to 9.
abbrev pub is_digit : ℕ → Bool
is_digit c = nat_le 48 c && nat_le c 57

-- The byte is one of A to Z, 0 to 9 and `-`.
abbrev pub is_name_char : ℕ → Bool
is_name_char c = is_letter c || is_digit c || c == 45

-- The text is a user name without its colon, or a local name: 1 to 12 characters, the first a letter.
abbrev pub is_word : List ℕ → Bool
is_word [] = false
is_word (first ∷ others) = is_letter first && nat_le (length others) 11 && list_all is_name_char others

-- The text is a user name with its colon.
abbrev pub is_user_text : List ℕ → Bool
is_user_text [] = false
is_user_text (first ∷ word) = first == 58 && is_word word

-- The text is a language without its trailing spaces: up to 4 characters.
abbrev pub is_lang : List ℕ → Bool
is_lang lang = nat_le (length lang) 4 && list_all is_name_char lang
