-- How a line is read. None of this has to be believed: the law `lines_are_read_by_their_forms` relates it to the forms.
use Rattle.std.specs.Prelude.{◌-◌, ◌^◌, ℕ, List, [], ◌∷◌, Bool, true, false, not, ◌&&◌, ◌==◌, Option, Some, None, codes, drop, length, nat_le, if◌then◌else◌}
use Rattle.std.specs.Option.{option_and_then, option_map}
use Rattle.std.specs.List.{list_all}
use Rattle.std.specs.Fmt.{decimal}
use Rattle.std.specs.Str.Parse.{digits_value}
use Rattle.g_name.specs.Order.{same_text}
use Rattle.g_lines.specs.Numbers.{number_read}
use Rattle.g_plan.specs.Table.{mnemonic_of, row_of}
use Rattle.g_plan.specs.Words.{before, behind_label, front_of, is_label, is_printed, is_some_text, label_read, without_back, without_front, words}
use Rattle.g_plan.specs.declared.form.Form.{Form}
use Rattle.g_plan.specs.declared.form.Form.TheVariants.{Nothing, Program, At, Word, Chars, Order}
use Rattle.g_plan.specs.declared.form.Value.{Value}
use Rattle.g_plan.specs.declared.form.Value.TheVariants.{Number, Named}
use Rattle.g_plan.specs.declared.mnemonic.Mnemonic.{Mnemonic}

-- The only word of a list, if it has exactly one.
abbrev pub only : List (List ℕ) → Option (List ℕ)
only [] = None
only (w ∷ []) = Some w
only (w ∷ v ∷ ws) = None

-- The number, if it isn't below the minimum.
abbrev pub from_least : ℕ → ℕ → Option ℕ
from_least least n = if nat_le least n then Some n else None

-- The number up to `most` that a text is, if it is one.
abbrev pub number_value : ℕ → List ℕ → Option Value
number_value most text = option_map Number (number_read most text)

-- The label, if there is one, otherwise the number.
abbrev pub named_or : Option (List ℕ) → Option Value → Option Value
named_or (Some label) number = Some (Named label)
named_or None number = number

-- The value that a text is: a label, otherwise a number.
abbrev pub value_read : ℕ → List ℕ → Option Value
value_read most text = named_or (label_read text) (number_value most text)

-- The negative number -n as a word, modulo 2^24.
abbrev pub negative : ℕ → Value
negative n = Number (2 ^ 24 - n)

-- The negative number of these digits.
abbrev pub negative_read : List ℕ → Option Value
negative_read digits = option_map negative (option_and_then (from_least 1) (number_read (2 ^ 23) digits))

-- The word that a text is: a negative number, a label, or a number.
abbrev pub word_read : List ℕ → Option Value
word_read [] = None
word_read (c ∷ cs) = if c == 45 then negative_read cs else value_read (2 ^ 24 - 1) (c ∷ cs)

-- The digit from 1 to 3 in brackets, if the three bytes are that.
abbrev pub in_brackets : ℕ → ℕ → ℕ → Option ℕ
in_brackets c d e = if (c == 40) && (nat_le 49 d && (nat_le d 51 && (e == 41))) then Some (d - 48) else None

-- The modifier that a text is; an empty text is none.
abbrev pub modifier_read : Bool → List ℕ → Option ℕ
modifier_read may [] = Some 0
modifier_read may (c ∷ []) = None
modifier_read may (c ∷ d ∷ []) = None
modifier_read may (c ∷ d ∷ e ∷ []) = if may then in_brackets c d e else None
modifier_read may (c ∷ d ∷ e ∷ f ∷ cs) = None

-- The accumulator that a text is: one digit from 0 to 7.
abbrev pub accumulator_read : List ℕ → Option ℕ
accumulator_read [] = None
accumulator_read (c ∷ []) = if nat_le 48 c && nat_le c 55 then Some (c - 48) else None
accumulator_read (c ∷ d ∷ cs) = None

-- The order with this modifier and address, if there is an address.
abbrev pub with_modifier : Mnemonic → ℕ → Option Value → ℕ → Option Form
with_modifier name x v m = option_map (Order name x m) v

-- The order with the address and the modifier in this word.
abbrev pub address_read : Mnemonic → ℕ → List ℕ → Option Form
address_read name x word =
    option_and_then (with_modifier name x (value_read (2 ^ 24) (before 40 word)))
    (modifier_read (row_of name).modified (drop (length (before 40 word)) word))

-- The order without an address, if no word follows.
abbrev pub alone_read : Mnemonic → ℕ → List (List ℕ) → Option Form
alone_read name x [] = Some (Order name x 0 (Number 0))
alone_read name x (w ∷ ws) = None

-- The order with these words after its accumulator: one if it has an address, otherwise none.
abbrev pub operand_of : Mnemonic → ℕ → Option ℕ → List (List ℕ) → Option Form
operand_of name x None ws = alone_read name x ws
operand_of name x (Some most) ws = option_and_then (address_read name x) (only ws)

-- The order of this name and accumulator with these words after them.
abbrev pub operand_read : Mnemonic → ℕ → List (List ℕ) → Option Form
operand_read name x ws = operand_of name x (row_of name).most ws

-- The same, with the accumulator as the last argument.
abbrev pub with_accumulator : Mnemonic → List (List ℕ) → ℕ → Option Form
with_accumulator name ws x = operand_read name x ws

-- The order whose accumulator is the first of these words.
abbrev pub accumulated : Mnemonic → List (List ℕ) → Option Form
accumulated name [] = None
accumulated name (w ∷ ws) = option_and_then (with_accumulator name ws) (accumulator_read w)

-- The order with these words after its name, whose accumulator is known or the first word.
abbrev pub order_of : Mnemonic → Option ℕ → List (List ℕ) → Option Form
order_of name (Some x) ws = operand_read name x ws
order_of name None ws = accumulated name ws

-- The order of this name with these words after it.
abbrev pub order_read : Mnemonic → List (List ℕ) → Option Form
order_read name ws = order_of name (row_of name).x ws

-- The order of a name, if the line's first word is one.
abbrev pub order_line_read : List (List ℕ) → Option Mnemonic → Option Form
order_line_read ws None = None
order_line_read ws (Some name) = order_read name ws

-- The form of a CHARS line: its 1 to 40 characters.
abbrev pub chars_read : List ℕ → Option Form
chars_read text = if nat_le 7 (length text) && nat_le (length text) 46 then Some (Chars (drop 6 text)) else None

-- The form of a CHARS line.
abbrev pub chars_line_read : List ℕ → Option Form
chars_line_read rest = chars_read (without_back (without_front rest))

-- The form of a PROGRAM line with these words.
abbrev pub program_read : List (List ℕ) → Option Form
program_read ws = option_map Program (option_and_then (from_least 32) (option_and_then (number_read 32768) (only ws)))

-- The form of an AT line with these words.
abbrev pub at_read : List (List ℕ) → Option Form
at_read ws = option_map At (option_and_then (number_read 32767) (only ws))

-- The form of a WORD line with these words.
abbrev pub word_line_read : List (List ℕ) → Option Form
word_line_read ws = option_map Word (option_and_then word_read (only ws))

-- The form of a line by its first word, the words after it, and its text.
abbrev pub named_read : Bool → List ℕ → List (List ℕ) → List ℕ → Option Form
named_read labelled name ws rest =
    if same_text name (codes "CHARS") then chars_line_read rest
    else if same_text name (codes "PROGRAM") then (if labelled then None else program_read ws)
    else if same_text name (codes "AT") then (if labelled then None else at_read ws)
    else if same_text name (codes "WORD") then word_line_read ws
    else order_line_read ws (mnemonic_of name)

-- The form of a line by its words and its text; without words it says nothing.
abbrev pub words_read : Bool → List (List ℕ) → List ℕ → Option Form
words_read labelled [] rest = Some Nothing
words_read labelled (name ∷ ws) rest = named_read labelled name ws rest

-- THE READING of a line.
unfoldable pub form_read : List ℕ → Option Form
form_read line =
    if not (list_all is_printed line) then None
    else if is_some_text (front_of line) && not (is_label (front_of line)) then None
    else words_read (is_some_text (front_of line)) (words (behind_label line)) (behind_label line)
