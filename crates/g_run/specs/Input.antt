-- The words of the command line, and the bytes of the script.
use Rattle.std.specs.Prelude.{◌≡◌, ◌≤◌, ℕ, List, [], ◌∷◌, Option, Some, length, map, take, drop, codes}
use Rattle.std.specs.Borrow.{Bor}

-- the one word `run`
abbrev pub IsRun : List (Bor (List ℕ)) → Type 0
IsRun words = map (λ word. word.now) words ≡ codes "run" ∷ []

-- the text is a prefix of what a source had left, and the rest is what it has left now
pub record HasRead (left text : List ℕ) (rest : Option (List ℕ)) : Type 0 where
  pub within : length text ≤ length left
  pub front : text ≡ take (length text) left
  pub rest_is : rest ≡ Some (drop (length text) left)
