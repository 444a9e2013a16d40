-- Six-bit characters: a word has four of them, and each corresponds to one byte outside the word.
use Rattle.std.specs.Prelude.{ℕ, ◌+◌, ◌-◌, ◌*◌, ◌/◌, ◌%◌, ◌^◌, nat_lt, if◌then◌else◌}

-- The weight of the character at position p; position 0 is the most significant.
abbrev pub place_value : ℕ → ℕ
place_value p = 2 ^ (6 * (3 - p))

-- The six-bit character of the word w at position p.
abbrev pub character : ℕ → ℕ → ℕ
character w p = w / place_value p % 64

-- The word w with the character at position p replaced by c.
abbrev pub with_character : ℕ → ℕ → ℕ → ℕ
with_character w p c = w - character w p * place_value p + c * place_value p

-- The byte that represents a six-bit character outside a word.
abbrev pub byte_of : ℕ → ℕ
byte_of code = if nat_lt code 16 then code + 0x30 else (if nat_lt code 32 then code + 0x10 else code + 0x20)

-- The six-bit character of a byte: small letters count as capitals, and a byte that represents no character as `?`.
abbrev pub code_of : ℕ → ℕ
code_of byte =
    if nat_lt byte 0x20 then 15 else (if nat_lt byte 0x30 then byte - 0x10 else (if nat_lt byte 0x40 then byte - 0x30 else (if nat_lt byte 0x60 then byte - 0x20 else (if nat_lt byte 0x7f then byte - 0x40 else 15))))
