-- Readers that consume one byte at a time.
use Rattle.std.specs.Prelude.{ℕ, List, [], ◌∷◌, Option, option_and_then}

-- The state after all bytes, if each of them was accepted.
abbrev pub run : {S : Type 0} → (ℕ → S → Option S) → Option S → List ℕ → Option S
run step state [] = state
run step state (byte ∷ bytes) = run step (option_and_then (step byte) state) bytes
