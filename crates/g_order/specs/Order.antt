-- The fields of an order and the word that holds them, in both directions.
use Rattle.std.specs.Prelude.{ℕ, ◌+◌, ◌-◌, ◌*◌, ◌/◌, ◌%◌, ◌^◌, ◌==◌, ◌&&◌, Bool, Option, Some, None, is_some, nat_lt, nat_le, if◌then◌else◌}
use Rattle.g_order.specs.Table.{function_of}

-- The four fields of an order: accumulator, function number, modifier, and address or number.
pub record Fields : Type 0 where
  pub x : ℕ
  pub f : ℕ
  pub m : ℕ
  pub n : ℕ

-- The function numbers of branches; a branch has an N of fifteen bits and no M.
abbrev pub is_branch : ℕ → Bool
is_branch f = nat_le 0o50 f && nat_lt f 0o100

-- M and N fit into their bits of a word.
abbrev pub are_operands : ℕ → ℕ → ℕ → Bool
are_operands f m n =
    if is_branch f then (m == 0) && nat_lt n (2 ^ 15) else nat_lt m 4 && nat_lt n (2 ^ 12)

-- Some row of the table matches F and X, and all fields fit into a word.
abbrev pub is_order : ℕ → ℕ → ℕ → ℕ → Bool
is_order x f m n = nat_lt x 8 && is_some (function_of f x) && are_operands f m n

-- The fields of a word: X has three bits, F seven, M two and N twelve. In a branch only the upper six bits of F count, and N is all fifteen bits
-- after them.
abbrev pub fields_of : ℕ → Fields
fields_of w =
    let f = w / 2 ^ 14 % 2 ^ 7 in
    if is_branch f then (record { x = w / 2 ^ 21; f = 2 * (w / 2 ^ 15 % 2 ^ 6); m = 0; n = w % 2 ^ 15 }) else (record { x = w / 2 ^ 21; f = f; m = w / 2 ^ 12 % 4; n = w % 2 ^ 12 })

-- The function number of the words that have this number in the seven bits of F: for a branch the even one.
abbrev pub function_number : ℕ → ℕ
function_number number = if is_branch number then number - number % 2 else number

-- The order of a word, or none if no row of the table matches it.
abbrev pub decoded : ℕ → Option Fields
decoded w = let o = fields_of w in if is_order o.x o.f o.m o.n then Some o else None

-- The word with these fields; the N of a branch takes the place of M as well.
abbrev pub word_of : Fields → ℕ
word_of o = o.x * 2 ^ 21 + o.f * 2 ^ 14 + o.m * 2 ^ 12 + o.n
