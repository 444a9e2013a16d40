-- The place where a text leaves a grammar. A grammar is given as a predicate on texts.
use Rattle.std.specs.Prelude.{ℕ, ◌<◌, ◌≤◌, List, ◌++◌, length, take}

-- The bytes are a prefix of some text of the grammar.
abbrev pub Begins : (List ℕ → Type 0) → List ℕ → Type 0
Begins IsIn front = (rest : List ℕ) × IsIn (front ++ rest)

-- The place is the length of the longest prefix of the text that is also a prefix of some text of the grammar.
pub record IsBadPlace (IsIn : List ℕ → Type 0) (text : List ℕ) (place : ℕ) : Type 0 where
  pub within : place ≤ length text
  pub begins : Begins IsIn (take place text)
  pub longest : (k : ℕ) → place < k → k ≤ length text → Begins IsIn (take k text) → ⊥
