-- Where the cached blocks lie, and which places are free.
use Rattle.std.specs.Prelude.{◌≡◌, ◌≢◌, ℕ, ◌+◌, ◌<◌, [], List, All, AllPairs, length, map, slice_index_or}

-- the cached blocks, from their places
abbrev pub kept_at : List (List ℕ) → List (ℕ × ℕ) → List (ℕ × List ℕ)
kept_at blocks places = map (λ e. (e.0, slice_index_or blocks e.1 [])) places

-- each of 64 places holds a cached block, or is free
pub record ArePlaces (cap : ℕ) (places : List (ℕ × ℕ)) (free : List ℕ) (blocks : List (List ℕ)) : Type 0 where
  pub room : cap ≡ 64
  pub size : length blocks ≡ 64
  pub counted : length places + length free ≡ 64
  pub apart : AllPairs (λ d e. d.1 ≢ e.1) places
  pub within : All (λ e. e.1 < 64) places
  pub distinct : AllPairs (λ p q. p ≢ q) free
  pub below : All (λ p. p < 64) free
  pub unused : All (λ p. All (λ e. e.1 ≢ p) places) free
