-- A program as the order code sees it: its words, of which the first eight are the accumulators, the address of its next order, and overflow.
use Rattle.std.specs.Prelude.{ℕ, zero, suc, ◌+◌, ◌-◌, ◌/◌, ◌%◌, ◌^◌, ◌==◌, ◌&&◌, ◌||◌, Bool, true, List, length, map, Option, Some, None, option_and_then, slice_get, slice_index, slice_set, nat_le, if◌then◌else◌}
use Rattle.std.specs.List.{range_with_len}
use Rattle.g_word.specs.Characters.{character, byte_of}
use Rattle.g_order.specs.Order.{Fields}

-- The state of a program: its words, the address of its next order, and overflow.
pub record Machine : Type 0 where
  pub words : List ℕ
  pub next : ℕ
  pub overflow : Bool

-- The fields of an order that its effect uses once its function is known.
abbrev pub operands : ℕ → ℕ → ℕ → Fields
operands x m n = record { x = x; f = 0; m = m; n = n }

-- The number of words of the program.
abbrev pub size : Machine → ℕ
size s = length s.words

-- The word at an address.
abbrev pub word_at : Machine → ℕ → ℕ
word_at s a = slice_index s.words a

-- The accumulator that the X of an order names.
abbrev pub accumulator : Machine → Fields → ℕ
accumulator s o = word_at s o.x

-- The accumulator after the one that X names; X0 follows X7.
abbrev pub next_accumulator : Fields → ℕ
next_accumulator o = (o.x + 1) % 8

-- The address N of an order, increased modulo 2^15 by the low 15 bits of the accumulator that its M names.
abbrev pub address : Machine → Fields → ℕ
address s o = if o.m == 0 then o.n else (o.n + word_at s o.m % 2 ^ 15) % 2 ^ 15

-- The position of the character that an order names: the top two bits of the accumulator that its M names.
abbrev pub place : Machine → Fields → ℕ
place s o = if o.m == 0 then 0 else word_at s o.m / 2 ^ 22

-- The word at the address of an order, if the program has it.
abbrev pub operand : Machine → Fields → Option ℕ
operand s o = slice_get s.words (address s o)

-- The next address, modulo 2^15.
abbrev pub following : ℕ → ℕ
following a = (a + 1) % 2 ^ 15

-- The address before this one, modulo 2^15.
abbrev pub preceding : ℕ → ℕ
preceding a = (a + (2 ^ 15 - 1)) % 2 ^ 15

-- The program with another word at an address.
abbrev pub with_word : Machine → ℕ → ℕ → Machine
with_word s a w = record s { words = slice_set s.words a w }

-- The program with its next order at an address.
abbrev pub going_to : Machine → ℕ → Machine
going_to s a = record s { next = a }

-- The program continuing after the order that was executed.
abbrev pub onward : Machine → Machine
onward s = going_to s (following s.next)

-- The program with overflow set if a result was out of range, otherwise unchanged.
abbrev pub overflown : Machine → Bool → Machine
overflown s out = record s { overflow = if out then true else s.overflow }

-- The program with a result at an address, and overflow set if the result was out of range.
abbrev pub result_at : Machine → ℕ → ℕ → Bool → Machine
result_at s a w out = overflown (with_word s a w) out

-- The words with `count` of them copied one after another, the first one first.
abbrev pub copied : ℕ → List ℕ → ℕ → ℕ → List ℕ
copied zero words from to = words
copied (suc count) words from to = copied count (slice_set words to (slice_index words from)) (from + 1) (to + 1)

-- The number of words that this many characters take.
abbrev pub words_for : ℕ → ℕ
words_for count = (count + 3) / 4

-- The bytes of `count` characters that begin at an address, four in each word.
abbrev pub characters : List ℕ → ℕ → ℕ → List ℕ
characters words from count = map (λ i. byte_of (character (slice_index words (from + i / 4)) (i % 4))) (range_with_len 0 count)

-- The text of 0 to 40 characters that begin at an address, if the program has every word of them.
abbrev pub text_of : Machine → ℕ → ℕ → Option (List ℕ)
text_of s count from =
    if nat_le count 40 && (count == 0 || nat_le (from + words_for count) (size s)) then Some (characters s.words from count) else None

-- The text that an area of two words names: its number of characters, and the address of the first.
abbrev pub text_at : Machine → ℕ → Option (List ℕ)
text_at s area =
    option_and_then (λ count. option_and_then (text_of s count) (slice_get s.words (area + 1))) (slice_get s.words area)
