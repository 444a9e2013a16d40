-- Words of 24 bits as whole numbers: the signed value of a word, the word of a result, and shifts and rotations by whole-number arithmetic.
use Rattle.std.specs.Prelude.{ℕ, ℤ, pos, ◌+◌, ◌-◌, ◌*◌, ◌/◌, ◌%◌, ◌^◌, ◌-ℤ◌, Bool, ◌||◌, nat_lt, int_lt, int_le, unsigned_abs, if◌then◌else◌}
use Rattle.std.specs.Int.{int_rem_euclid}

-- The value of a word in twos complement.
abbrev pub signed_value : ℕ → ℤ
signed_value w = if nat_lt w (2 ^ 23) then pos w else (pos w -ℤ pos (2 ^ 24))

-- The word of a result: the result modulo 2^24.
abbrev pub wrapped : ℤ → ℕ
wrapped z = unsigned_abs (int_rem_euclid z (pos (2 ^ 24)))

-- A result is out of range if no word has it as its value: below -2^23, or at least 2^23.
abbrev pub is_out_of_range : ℤ → Bool
is_out_of_range z = int_lt z (pos 0 -ℤ pos (2 ^ 23)) || int_le (pos (2 ^ 23)) z

-- The word rotated left by n places: the bits that leave on the left enter on the right.
abbrev pub rotated_left : ℕ → ℕ → ℕ
rotated_left w n = let k = n % 24 in (w * 2 ^ k) % 2 ^ 24 + w / 2 ^ (24 - k)

-- The word rotated right by n places: the bits that leave on the right enter on the left.
abbrev pub rotated_right : ℕ → ℕ → ℕ
rotated_right w n = let k = n % 24 in w / 2 ^ k + (w % 2 ^ k) * 2 ^ (24 - k)

-- The word shifted left by n places; zeros enter on the right.
abbrev pub shifted_left : ℕ → ℕ → ℕ
shifted_left w n = (w * 2 ^ n) % 2 ^ 24

-- The word shifted right by n places; zeros enter on the left.
abbrev pub shifted_right : ℕ → ℕ → ℕ
shifted_right w n = w / 2 ^ n
