-- A file as bytes, and as blocks of 512 bytes.
use Rattle.std.specs.Prelude.{◌≡◌, ℕ, zero, suc, ◌+◌, ◌-◌, ◌/◌, ◌<◌, ◌≤◌, List, [], ◌∷◌, ◌++◌, length, take, drop, replicate, slice_index}

-- n bytes from position `at` on
abbrev pub part : ℕ → ℕ → List ℕ → List ℕ
part at n bytes = take n (drop at bytes)

-- the bytes with `piece` written at position `at`, which is at most their end
abbrev pub put : ℕ → List ℕ → List ℕ → List ℕ
put at piece bytes = take at bytes ++ piece ++ drop (at + length piece) bytes

-- the first n blocks of 512 bytes
abbrev pub blocks_of : ℕ → List ℕ → List (List ℕ)
blocks_of zero bytes = []
blocks_of (suc n) bytes = take 512 bytes ∷ blocks_of n (drop 512 bytes)

-- the whole blocks of these bytes
abbrev pub sectors_of : List ℕ → List (List ℕ)
sectors_of bytes = blocks_of (length bytes / 512) bytes

-- each number is a byte
abbrev pub AreBytes : List ℕ → Type 0
AreBytes bytes = (i : ℕ) → slice_index bytes i < 256

-- the bytes cut or extended to length n; what is new are zeros
abbrev pub padded : ℕ → List ℕ → List ℕ
padded n bytes = take n (bytes ++ replicate (n - length bytes) 0)

-- only zeros, if anything, and at most n
pub record IsBlank (n : ℕ) (bytes : List ℕ) : Type 0 where
  pub few : length bytes ≤ n
  pub zeros : bytes ≡ replicate (length bytes) 0
