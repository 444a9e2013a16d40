-- The two formats of blocks.
use Rattle.std.specs.Prelude.{◌≡◌, ℕ, ◌≤◌, Bool, nat_lt}
use Rattle.g_entry.specs.declared.format.Format.{Format}
use Rattle.g_entry.specs.declared.format.Format.TheVariants.{One, Two}

-- The number of a format in a head and in a dump's header.
abbrev pub format_number : Format → ℕ
format_number One = 1
format_number Two = 2

-- The number of bytes of a block number.
abbrev pub place_width : Format → ℕ
place_width One = 2
place_width Two = 3

-- The block number fits into that many bytes.
abbrev pub is_place : Format → ℕ → Bool
is_place One k = nat_lt k 65536
is_place Two k = nat_lt k 16777216

-- The format can represent this MONEY. The first format has no MONEY; there it is 1,000,000. In the second it is at
-- most 1,000,000,000.
abbrev pub IsMoney : Format → ℕ → Type 0
IsMoney One money = money ≡ 1000000
IsMoney Two money = money ≤ 1000000000
