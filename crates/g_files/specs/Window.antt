-- A range of a file's bytes in memory.
use Rattle.std.specs.Prelude.{ℕ, List}

pub record Window : Type 0 where
  -- the position of the first byte in the file
  pub at : ℕ
  pub bytes : List ℕ

abbrev pub window : ℕ → List ℕ → Window
window at bytes = record { at = at; bytes = bytes }
