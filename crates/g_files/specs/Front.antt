-- What a call preserves of a file's first bytes.
use Rattle.std.specs.Prelude.{◌≡◌, ℕ, ◌≤◌, List, length, take}

-- the first n bytes are still there, unchanged
pub record KeepsFront (n : ℕ) (old new : List ℕ) : Type 0 where
  pub long : n ≤ length new
  pub same : take n new ≡ take n old

-- the file is a prefix of what it was, of at least n bytes
abbrev pub IsCut : ℕ → List ℕ → List ℕ → Type 0
IsCut n old new = (m : ℕ) × (n ≤ m) × (m ≤ length old) × (new ≡ take m old)
