-- A word with one character replaced is again a word; the computation at 32 bits gives the same result.
-- serves: with_char
use Rattle.std.proofs.Common.{ℕ, zero, suc, ◌+◌, ◌-◌, ◌*◌, ◌%◌, ◌^◌, ◌<◌, arith}
use Rattle.g_word.specs.Characters.{place_value, character}

pub with_character_fits : (w p c : ℕ) → w < 2 ^ 24 → p < 4 → c < 64 → w - character w p * place_value p % 2 ^ 32 + c * place_value p % 2 ^ 32 < 2 ^ 24
with_character_fits w zero c h _ s = omega arith
with_character_fits w (suc zero) c h _ s = omega arith
with_character_fits w (suc (suc zero)) c h _ s = omega arith
with_character_fits w (suc (suc (suc zero))) c h _ s = omega arith
with_character_fits w (suc (suc (suc (suc p)))) c h below s = absurd (omega arith)
