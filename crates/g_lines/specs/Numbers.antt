-- Numbers in texts: decimal, without a sign and without leading zeros.
use Rattle.std.specs.Fmt.{decimal}
use Rattle.std.specs.Prelude.{List, None, Option, Some, if◌then◌else◌, length, nat_le, slice_index, ℕ, ◌&&◌, ◌≡◌, ◌≤◌}
use Rattle.std.specs.Str.Parse.{digits_value}
use Rattle.g_name.specs.Order.{same_text}

-- The number that these digits write, if it is at most `most`.
abbrev pub number_read : ℕ → List ℕ → Option ℕ
number_read most digits =
    if nat_le (digits_value 10 digits) most && same_text (decimal (digits_value 10 digits)) digits then Some (digits_value 10 digits) else None

-- The first byte is a digit; if it is 0, it is the only byte.
pub record BeginsPlainly (digits : List ℕ) : Type 0 where
  pub some : 1 ≤ length digits
  pub least : 48 ≤ slice_index digits 0
  pub most : slice_index digits 0 ≤ 57
  pub alone : slice_index digits 0 ≡ 48 → length digits ≡ 1
