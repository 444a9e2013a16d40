-- The words of the command line, and what they request.
use Rattle.std.specs.Prelude.{◌≡◌, ◌≢◌, ℕ, List, [], ◌∷◌, Option, Some, None, IfSome, map, codes, true}
use Rattle.std.specs.Borrow.{Bor}
use Rattle.g_name.specs.Grammar.{is_word}
use Rattle.g_name.specs.Names.{IsName, name_text, path_name}
use Rattle.g_look_program.specs.declared.words.Asked.{Asked}
use Rattle.g_look_program.specs.declared.words.Asked.TheVariants as asked

-- the bytes of the words
abbrev pub texts_of : List (Bor (List ℕ)) → List (List ℕ)
texts_of words = map (λ word. word.now) words

-- The names may be requested.
abbrev pub IsAsked : Asked → Type 0
IsAsked asked.Check = Unit {0}
IsAsked asked.Dumps = Unit {0}
IsAsked (asked.List user) = IfSome user (λ u. is_word u ≡ true)
IsAsked (asked.Show path) = IsName (path_name path)
IsAsked asked.Restorable = Unit {0}
IsAsked asked.Seal = Unit {0}

-- The words of a list, of all users or of one.
abbrev pub list_words : Option (List ℕ) → List (List ℕ)
list_words None = codes "list" ∷ []
list_words (Some user) = codes "list" ∷ (58 ∷ user) ∷ []

-- THE WORDS that request it.
abbrev pub words_of : Asked → List (List ℕ)
words_of asked.Check = codes "check" ∷ []
words_of asked.Dumps = codes "dumps" ∷ []
words_of (asked.List user) = list_words user
words_of (asked.Show path) = codes "show" ∷ name_text (path_name path) ∷ []
words_of asked.Restorable = codes "restorable" ∷ []
words_of asked.Seal = codes "seal" ∷ []

-- The words request nothing.
abbrev pub AskNothing : List (List ℕ) → Type 0
AskNothing words = (asked : Asked) → IsAsked asked → words ≢ words_of asked
