-- Words and languages, character by character.
use Rattle.std.specs.Prelude.{ℕ, Bool, true, false, ◌&&◌, ◌||◌, nat_lt, List, [], ◌∷◌, length}
use Rattle.g_name.specs.Grammar.{is_letter, is_name_char, is_word}

-- The text is empty.
abbrev pub is_empty : List ℕ → Bool
is_empty [] = true
is_empty (_ ∷ _) = false

-- The text is a word, or still empty.
abbrev pub may_be_word : List ℕ → Bool
may_be_word text = is_empty text || is_word text

-- The byte may follow this prefix of a word.
abbrev pub extends : List ℕ → ℕ → Bool
extends [] byte = is_letter byte
extends (_ ∷ others) byte = is_name_char byte && nat_lt (length others) 11

-- The byte may follow this prefix of a language.
abbrev pub extends_lang : List ℕ → ℕ → Bool
extends_lang lang byte = is_name_char byte && nat_lt (length lang) 4
