-- The order step: what one order does to a program, by the function of the order.
use Rattle.std.specs.Prelude.{ℕ, pos, ◌+◌, ◌/◌, ◌%◌, ◌^◌, ◌+ℤ◌, ◌-ℤ◌, ◌*ℤ◌, ◌==◌, ◌&&◌, not, Bool, true, false, Option, Some, None, option_and_then, unwrap_or, unsigned_abs, bit_and, bit_or, bit_xor, int_lt, nat_lt, nat_le, if◌then◌else◌}
use Rattle.std.specs.Option.{option_map}
use Rattle.std.specs.Int.{int_div_euclid, int_rem_euclid}
use Rattle.g_word.specs.Word.{signed_value, wrapped, is_out_of_range, rotated_left, rotated_right, shifted_left, shifted_right}
use Rattle.g_word.specs.Characters.{character, with_character}
use Rattle.g_order.specs.Order.{Fields, decoded}
use Rattle.g_order.specs.Table.{function_of}
use Rattle.g_order.specs.declared.functions.Operation.{Operation}
use Rattle.g_order.specs.declared.functions.Operation.TheVariants.{Take, Add, Negate, Subtract, And, Or, Differ}
use Rattle.g_order.specs.declared.functions.Condition.{Condition}
use Rattle.g_order.specs.declared.functions.Condition.TheVariants.{Zero, NotZero, NotNegative, Negative, Always, Overflow, OverflowReset, NoOverflow, NoOverflowReset}
use Rattle.g_order.specs.declared.functions.Function.{Function}
use Rattle.g_order.specs.declared.functions.Function.TheVariants.{Load, Store, LoadNumber, LoadCharacter, StoreZero, DepositCharacter, Multiply, Branch, Call, Exit, ShiftLeft, ShiftRight, Null, Move, Transfer, Halt, Display, Delete}
use Rattle.g_mill.specs.declared.event.Event.{Event}
use Rattle.g_mill.specs.declared.event.Event.TheVariants.{Ran, Peri, Halted, Displayed, Deleted, Illegal}
use Rattle.g_mill.specs.Machine.{Machine, size, word_at, accumulator, next_accumulator, address, place, operand, following, with_word, going_to, onward, result_at, copied, text_at}

-- The word that an operation makes of an old word and an operand.
abbrev pub made : Operation → ℕ → ℕ → ℕ
made Take old operand = operand
made Add old operand = wrapped (signed_value old +ℤ signed_value operand)
made Negate old operand = wrapped (pos 0 -ℤ signed_value operand)
made Subtract old operand = wrapped (signed_value old -ℤ signed_value operand)
made And old operand = bit_and old operand
made Or old operand = bit_or old operand
made Differ old operand = bit_xor old operand

-- The result of an operation is out of range.
abbrev pub overflows : Operation → ℕ → ℕ → Bool
overflows Add old operand = is_out_of_range (signed_value old +ℤ signed_value operand)
overflows Negate old operand = is_out_of_range (pos 0 -ℤ signed_value operand)
overflows Subtract old operand = is_out_of_range (signed_value old -ℤ signed_value operand)
overflows Take old operand = false
overflows And old operand = false
overflows Or old operand = false
overflows Differ old operand = false

-- A branch is taken, by the accumulator and overflow.
abbrev pub is_taken : Condition → ℕ → Bool → Bool
is_taken Zero x overflow = x == 0
is_taken NotZero x overflow = not (x == 0)
is_taken NotNegative x overflow = not (int_lt (signed_value x) (pos 0))
is_taken Negative x overflow = int_lt (signed_value x) (pos 0)
is_taken Always x overflow = true
is_taken Overflow x overflow = overflow
is_taken OverflowReset x overflow = overflow
is_taken NoOverflow x overflow = not overflow
is_taken NoOverflowReset x overflow = not overflow

-- Overflow after the test of a branch; a test that resets clears it.
abbrev pub overflow_behind : Condition → Bool → Bool
overflow_behind Zero overflow = overflow
overflow_behind NotZero overflow = overflow
overflow_behind NotNegative overflow = overflow
overflow_behind Negative overflow = overflow
overflow_behind Always overflow = overflow
overflow_behind Overflow overflow = overflow
overflow_behind OverflowReset overflow = false
overflow_behind NoOverflow overflow = overflow
overflow_behind NoOverflowReset overflow = false

-- The outcome of an order: the program and the event, or none if the order is illegal.
abbrev pub Outcome : Type 0
Outcome = Option (Machine × Event)

-- The order was executed, and the program continues after it.
abbrev pub done : Machine → Outcome
done s = Some (onward s, Ran)

-- A shift: the low twelve bits of the address say its kind, circular or logical, and the number of places.
abbrev pub shifted : Bool → Machine → Fields → Outcome
shifted left s o =
    let kind = address s o % 2 ^ 12 / 2 ^ 10 in
    let places = address s o % 2 ^ 10 in
    let x = accumulator s o in
    if kind == 0 then done (with_word s o.x (if left then rotated_left x places else rotated_right x places)) else (if kind == 1 then done (with_word s o.x (if left then shifted_left x places else shifted_right x places)) else None)

-- MOVE copies as many words as the low nine bits of the address say, and 512 if they are 0; source and destination must be in the program.
abbrev pub moved : Machine → Fields → Outcome
moved s o =
    let low = address s o % 512 in
    let count = if low == 0 then 512 else low in
    let from = accumulator s o % 2 ^ 15 in
    let to = word_at s (next_accumulator o) % 2 ^ 15 in
    if nat_le (from + count) (size s) && nat_le (to + count) (size s) then done (record s { words = copied count s.words from to }) else None

-- The outcome of an order by its function. It is illegal if it needs a word or a text that the program doesn't have.
abbrev pub effect : Function → Machine → Fields → Outcome
effect (Load operation) s o =
    option_and_then (λ n. let x = accumulator s o in done (result_at s o.x (made operation x n) (overflows operation x n))) (operand s o)
effect (Store operation) s o =
    option_and_then (λ n. let x = accumulator s o in done (result_at s (address s o) (made operation n x) (overflows operation n x))) (operand s o)
effect (LoadNumber operation) s o =
    let x = accumulator s o in
    let n = address s o in
    done (result_at s o.x (made operation x n) (overflows operation x n))
effect LoadCharacter s o = option_and_then (λ n. done (with_word s o.x (character n (place s o)))) (operand s o)
effect StoreZero s o = option_and_then (λ _. done (with_word s (address s o) 0)) (operand s o)
effect DepositCharacter s o =
    option_and_then (λ n. done (with_word s (address s o) (with_character n (place s o) (accumulator s o % 64)))) (operand s o)
effect Multiply s o =
    option_and_then (λ n. let x = accumulator s o in let product = signed_value x *ℤ signed_value n in let high = wrapped (int_div_euclid product (pos (2 ^ 23))) in let low = unsigned_abs (int_rem_euclid product (pos (2 ^ 23))) in done (result_at (with_word s o.x high) (next_accumulator o) low ((x == 2 ^ 23) && (n == 2 ^ 23)))) (operand s o)
effect (Branch condition) s o =
    let goes_to = if is_taken condition (accumulator s o) s.overflow then o.n else following s.next in
    Some (record s { next = goes_to; overflow = overflow_behind condition s.overflow }, Ran)
effect Call s o = Some (going_to (with_word s o.x (following s.next)) o.n, Ran)
effect Exit s o = Some (going_to s ((accumulator s o % 2 ^ 15 + o.n) % 2 ^ 15), Ran)
effect ShiftLeft s o = shifted true s o
effect ShiftRight s o = shifted false s o
effect Null s o = done s
effect Move s o = moved s o
effect Transfer s o = Some (onward s, Peri (address s o))
effect Halt s o = option_map (λ text. (onward s, Halted text)) (text_at s (address s o))
effect Display s o = option_map (λ text. (onward s, Displayed text)) (text_at s (address s o))
effect Delete s o = option_map (λ text. (onward s, Deleted text)) (text_at s (address s o))

-- The outcome of the order with these fields.
abbrev pub performed : Machine → Fields → Outcome
performed s o = option_and_then (λ function. effect function s o) (function_of o.f o.x)

-- The program and the event after the word is executed as an order; an illegal one changes nothing.
abbrev pub obeyed : Machine → ℕ → Machine × Event
obeyed s word = unwrap_or (option_and_then (performed s) (decoded word)) (s, Illegal word s.next)

-- One step of a program. An order past its end is illegal, and reported as the word 0.
abbrev pub order : Machine → Machine × Event
order s = if nat_lt s.next (size s) then obeyed s (word_at s s.next) else (s, Illegal 0 s.next)
