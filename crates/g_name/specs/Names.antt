-- Written names of files: their parts, and their text.
use Rattle.std.specs.Prelude.{◌≡◌, ℕ, ◌≤◌, true, List, [], ◌++◌, Option, Some, None, IfSome, codes}
use Rattle.std.specs.Fmt.{decimal}
use Rattle.g_name.specs.Grammar.{is_word, is_user_text, is_lang}
use Rattle.g_name.specs.declared.full.Full.{Full}
use Rattle.g_name.specs.declared.path.Path.{Path}

-- The parts of a name that are written.
pub record Name : Type 0 where
  pub user : Option (List ℕ)
  pub local : List ℕ
  pub generation : Option ℕ
  pub lang : Option (List ℕ)

-- Each part that is present is valid: words, a generation from 1 to 4095, and a language.
pub record IsName (n : Name) : Type 0 where
  pub user : IfSome n.user (λ u. is_word u ≡ true)
  pub local : is_word n.local ≡ true
  pub generation : IfSome n.generation (λ g. (1 ≤ g) × (g ≤ 4095))
  pub lang : IfSome n.lang (λ l. is_lang l ≡ true)

-- The user part of a name's text, `:USER.`; empty if no user is written.
abbrev pub user_part : Option (List ℕ) → List ℕ
user_part None = []
user_part (Some user) = codes ":" ++ user ++ codes "."

-- The last part of a name's text, `(generation/LANG)`. Either part may be absent.
abbrev pub last_part : Option ℕ → Option (List ℕ) → List ℕ
last_part None None = []
last_part (Some g) None = codes "(" ++ decimal g ++ codes ")"
last_part None (Some lang) = codes "(/" ++ lang ++ codes ")"
last_part (Some g) (Some lang) = codes "(" ++ decimal g ++ codes "/" ++ lang ++ codes ")"

-- The text of a name.
abbrev pub name_text : Name → List ℕ
name_text n = user_part n.user ++ n.local ++ last_part n.generation n.lang

-- The text is that of some user with its colon.
abbrev pub IsUserText : List ℕ → Type 0
IsUserText text = is_user_text text ≡ true

-- The text is that of some local name.
abbrev pub IsLocalText : List ℕ → Type 0
IsLocalText text = is_word text ≡ true

-- The text is that of some name of a file.
abbrev pub IsNameText : List ℕ → Type 0
IsNameText text = (n : Name) × IsName n × (text ≡ name_text n)

-- The written parts of a path.
abbrev pub path_name : Path → Name
path_name p = record { user = p.user; local = p.local; generation = p.generation; lang = p.lang }

-- The name in which all parts of a full name are written.
abbrev pub full_name : Full → Name
full_name f = record { user = Some f.user; local = f.local; generation = Some f.generation; lang = Some f.lang }
