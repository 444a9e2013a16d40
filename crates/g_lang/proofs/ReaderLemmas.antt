-- A word of a command that ends with a space.
-- serves: in_word
use Rattle.std.proofs.Common.{Bool, List, [], eq-eqb, false, length, refl, sym, ℕ, ◌==◌, ◌∷◌, ◌≡◌}
use Rattle.std.proofs.lemmas.Bool.{false≢true}
use Rattle.g_lang.specs.LineReader.{in_word, state_behind_word}
use Rattle.g_name.specs.Words.{extends}

pub behind_in_word : (word : List ℕ) (inner : Bool) (c : ℕ) → extends word c ≡ false → (length word == 0) ≡ false → c ≡ 32 → in_word word inner c ≡ state_behind_word word inner
behind_in_word [] inner c none some space = absurd (false≢true (sym some))
behind_in_word (first ∷ word) inner c none some space = rw (none, eq-eqb c 32 space) refl
