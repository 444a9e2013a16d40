-- The fields of a block: big-endian numbers, and texts padded with zeros.
use Rattle.std.specs.Prelude.{◌≡◌, ℕ, ◌-◌, ◌≤◌, List, ◌++◌, length, drop, replicate}
use Rattle.byteorder.specs.Endian.{big_bytes}

-- The number x as n bytes, the most significant byte first.
unfoldable pub number : ℕ → ℕ → List ℕ
number n x = big_bytes n x

-- The bytes, padded with zeros to a length of n. Longer bytes are unchanged.
unfoldable pub padded : ℕ → List ℕ → List ℕ
padded n bytes = bytes ++ replicate (n - length bytes) 0

-- A writer at byte `at` of a block: all bytes from `at` on are still zero.
pub record IsPartWritten (at : ℕ) (block : List ℕ) : Type 0 where
  pub within : at ≤ 512
  pub size : length block ≡ 512
  pub zeros : drop at block ≡ replicate (512 - at) 0
