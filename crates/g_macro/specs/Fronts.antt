-- The first 240 bytes of a text, as the code stores them.
use Rattle.std.specs.Prelude.{List, length, nat_lt, take, ℕ, ◌≡◌}
use Rattle.g_macro.specs.declared.expansion.Filled.{Filled}
use Rattle.g_macro.specs.declared.expansion.Front.{Front}

-- The buffer has the first 240 bytes of the text, and `is_cut` says whether there are more.
abbrev pub Holds : List ℕ → Front → Type 0
Holds text front = (front.bytes.items ≡ take 240 text) × (front.is_cut ≡ nat_lt 240 (length text))

-- The text is the first 240 bytes of the whole one, and `is_cut` says whether there are more.
abbrev pub IsFilled : List ℕ → Filled → Type 0
IsFilled text filled = (filled.text ≡ take 240 text) × (filled.is_cut ≡ nat_lt 240 (length text))
