-- The lines of a text, by their first byte.
use Rattle.std.specs.Prelude.{◌≡◌, ◌==◌, ℕ, Bool, false, List, [], ◌∷◌, ◌++◌}
use Rattle.g_lines.specs.Lines.{lines_of}

-- The text has a line that begins with this byte.
abbrev pub HasLine : ℕ → List ℕ → Type 0
HasLine byte text = (line : List ℕ) × (front : List (List ℕ)) × (back : List (List ℕ)) × (lines_of text ≡ front ++ (byte ∷ line) ∷ back)

-- Whether the line begins with this byte.
abbrev pub begins_with : ℕ → List ℕ → Bool
begins_with byte [] = false
begins_with byte (first ∷ others) = first == byte
