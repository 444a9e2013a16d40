-- The octal digits of a word, as texts have them.
use Rattle.std.specs.Prelude.{ℕ, zero, suc, ◌+◌, ◌/◌, ◌%◌, ◌^◌, List, [], ◌∷◌}

-- The last n octal digits of a word as bytes, the most significant first.
unfoldable pub octal_digits : ℕ → ℕ → List ℕ
octal_digits zero word = []
octal_digits (suc n) word = (48 + word / 8 ^ n % 8) ∷ octal_digits n word
