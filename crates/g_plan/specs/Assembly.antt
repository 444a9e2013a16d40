-- THE ASSEMBLY of a source, over all its lines at once.
use Rattle.std.specs.Prelude.{◌≡◌, ◌+◌, ◌*◌, ◌/◌, ℕ, List, [], ◌∷◌, ◌++◌, Bool, true, false, not, ◌&&◌, ◌==◌, Option, Some, None, Result, Ok, Err, length, map, fold, max, min, nat_le, nat_lt, unwrap_or, if◌then◌else◌}
use Rattle.std.specs.Option.{option_and_then, option_map, option_or}
use Rattle.std.specs.List.{enumerate_from, filter_map, find, flat_map, list_all, list_any, range_with_len, scan}
use Rattle.g_lines.specs.Lines.{lines_of, text_of}
use Rattle.g_name.specs.Order.{same_text}
use Rattle.g_order.specs.Order.{Fields, word_of}
use Rattle.g_word.specs.Characters.{code_of}
use Rattle.g_word.specs.Octal.{octal_digits}
use Rattle.g_plan.specs.LineReader.{form_read}
use Rattle.g_plan.specs.Table.{row_of}
use Rattle.g_plan.specs.Words.{is_space, label_in}
use Rattle.g_plan.specs.declared.form.Form.{Form}
use Rattle.g_plan.specs.declared.form.Form.TheVariants.{Nothing, Program, At, Word, Chars, Order}
use Rattle.g_plan.specs.declared.form.Value.{Value}
use Rattle.g_plan.specs.declared.form.Value.TheVariants.{Number, Named}
use Rattle.g_plan.specs.declared.mnemonic.Row.{Row}
use Rattle.g_plan.specs.declared.source.Line.{Line}

-- The line consists of spaces.
abbrev pub is_blank : List ℕ → Bool
is_blank line = list_all is_space line

-- The label is this one.
abbrev pub is_this : List ℕ → Option (List ℕ) → Bool
is_this label None = false
is_this label (Some other) = same_text other label

-- The line has this label.
abbrev pub has_label : List ℕ → List ℕ → Bool
has_label label line = is_this label (label_in line)

-- An earlier line has the line's label.
abbrev pub is_among : List (List ℕ) → Option (List ℕ) → Bool
is_among earlier None = false
is_among earlier (Some label) = list_any (has_label label) earlier

-- The form, if it is allowed at its place. The flag says whether all earlier lines are blank; then only PROGRAM is allowed, otherwise every form but
-- PROGRAM.
abbrev pub in_place : Bool → Form → Option Form
in_place true (Program n) = Some (Program n)
in_place true other = None
in_place false (Program n) = None
in_place false form = Some form

-- What a line after these says; none if it has no form, or is out of place, or has the label of an earlier line.
abbrev pub form_behind : List (List ℕ) → List ℕ → Option Form
form_behind earlier line =
    if is_blank line then Some Nothing
    else if is_among earlier (label_in line) then None
    else option_and_then (in_place (list_all is_blank earlier)) (form_read line)

-- What each of these lines says after the earlier ones.
abbrev pub forms_behind : List (List ℕ) → List (List ℕ) → List (Option Form)
forms_behind earlier [] = []
forms_behind earlier (line ∷ lines) = form_behind earlier line ∷ forms_behind (earlier ++ line ∷ []) lines

-- The number of words of a form.
abbrev pub count : Form → ℕ
count (Word v) = 1
count (Chars text) = (length text + 3) / 4
count (Order name x m v) = 1
count other = 0

-- THE PLACE after a line of this form at that place; a place past the longest program counts as 32,768.
abbrev pub moved : ℕ → Option Form → ℕ
moved place None = place
moved place (Some (At n)) = n
moved place (Some form) = min (place + count form) 32768

-- The lines with their labels, forms and places.
abbrev pub lines_with : List (List ℕ) → List (Option Form) → List ℕ → List Line
lines_with (line ∷ lines) (form ∷ forms) (place ∷ places) = record { label = label_in line; form = form; place = place } ∷ lines_with lines forms places
lines_with lines forms places = []

-- The lines of a source, each with its label, its form and the place of its first word; the places begin at 20.
abbrev pub source : List (List ℕ) → List Line
source lines = lines_with lines (forms_behind [] lines) (scan moved (λ place form. place) 20 (forms_behind [] lines))

-- The number that a value denotes: for a label, the place of the first line that has it.
abbrev pub resolved : List Line → Value → Option ℕ
resolved all (Number n) = Some n
resolved all (Named label) = option_map (λ line. line.place) (find (λ line. is_this label line.label) all)

-- The address, if it isn't above the maximum.
abbrev pub at_most : Option ℕ → ℕ → Option ℕ
at_most None a = Some a
at_most (Some most) a = if nat_le a most then Some a else None

-- The address of an order, if its value is within the name's range.
abbrev pub address : List Line → Row → Value → Option ℕ
address all row v = option_and_then (at_most row.most) (resolved all v)

-- The fields of an order with this row, accumulator, modifier and address.
abbrev pub fields_with : Row → ℕ → ℕ → ℕ → Fields
fields_with row x m a = record { x = x; f = row.f; m = m; n = a + row.adds }

-- The word of four characters.
abbrev pub four : ℕ → ℕ → ℕ → ℕ → ℕ
four a b c d = ((code_of a * 64 + code_of b) * 64 + code_of c) * 64 + code_of d

-- The words of characters, four in each; the last word is filled up with spaces.
abbrev pub char_words : List ℕ → List ℕ
char_words [] = []
char_words (a ∷ []) = four a 32 32 32 ∷ []
char_words (a ∷ b ∷ []) = four a b 32 32 ∷ []
char_words (a ∷ b ∷ c ∷ []) = four a b c 32 ∷ []
char_words (a ∷ b ∷ c ∷ d ∷ rest) = four a b c d ∷ char_words rest

-- THE WORDS of a form; none if it names a label that no line has, or an address out of range.
abbrev pub given : List Line → Form → Option (List ℕ)
given all (Word v) = option_map (λ w. w ∷ []) (resolved all v)
given all (Chars text) = Some (char_words text)
given all (Order name x m v) = option_map (λ a. word_of (fields_with (row_of name) x m a) ∷ []) (address all (row_of name) v)
given all other = Some []

-- The cells of a line: its words, each with its place.
abbrev pub cells : List Line → Line → Option (List (ℕ × ℕ))
cells all line = option_map (enumerate_from line.place) (option_and_then (given all) line.form)

-- The cells of these lines, in order.
abbrev pub all_cells : List Line → List Line → List (ℕ × ℕ)
all_cells all lines = flat_map (λ line. unwrap_or (cells all line) []) lines

-- The cell is at this place.
abbrev pub is_at : ℕ → ℕ × ℕ → Bool
is_at place cell = cell.0 == place

-- A cell is free if its place is below the size and no cell before it has that place.
abbrev pub is_free : ℕ → List (ℕ × ℕ) → ℕ × ℕ → Bool
is_free size filled cell = nat_lt cell.0 size && not (list_any (is_at cell.0) filled)

-- The place of an AT is below the size; other forms have no such limit.
abbrev pub is_below : ℕ → Option Form → Bool
is_below size (Some (At n)) = nat_lt n size
is_below size form = true

-- There are cells, and all of them are free.
abbrev pub are_free : ℕ → List (ℕ × ℕ) → Option (List (ℕ × ℕ)) → Bool
are_free size filled None = false
are_free size filled (Some cells) = list_all (is_free size filled) cells

-- A LINE IS GOOD after these lines if it has words, their cells are all free, and the place of an AT is below the size.
abbrev pub is_good : List Line → ℕ → List Line → Line → Bool
is_good all size earlier line = is_below size line.form && are_free size (all_cells all earlier) (cells all line)

-- The size that a form says, if it is PROGRAM.
abbrev pub size_of : Option Form → Option ℕ
size_of (Some (Program n)) = Some n
size_of form = None

-- The size of the program, if a line says it.
abbrev pub size_in : List Line → Option ℕ
size_in [] = None
size_in (line ∷ lines) = option_or (size_of line.form) (size_in lines)

-- The number of the first of these lines that isn't good after the earlier ones.
abbrev pub bad_behind : List Line → ℕ → List Line → List Line → Option ℕ
bad_behind all size earlier [] = None
bad_behind all size earlier (line ∷ lines) =
    if is_good all size earlier line then bad_behind all size (earlier ++ line ∷ []) lines else Some (length earlier + 1)

-- The first bad line; 1 if there is none and the source has no size, as a source of blank lines.
abbrev pub bad_or_first : Option ℕ → Option ℕ → Option ℕ
bad_or_first None None = Some 1
bad_or_first size bad = bad

-- THE FIRST BAD LINE, counted from 1.
abbrev pub first_bad : List Line → Option ℕ
first_bad all = bad_or_first (size_in all) (bad_behind all (unwrap_or (size_in all) 0) [] all)

-- The word at a place: that of the first cell there, or 0 if no line fills it.
abbrev pub word_at : List (ℕ × ℕ) → ℕ → ℕ
word_at filled place = unwrap_or (option_map (λ cell. cell.1) (find (is_at place) filled)) 0

-- The place after the last cell.
abbrev pub end_of : List (ℕ × ℕ) → ℕ
end_of filled = fold (λ last cell. max last (cell.0 + 1)) 0 filled

-- The words at the places below `end`.
abbrev pub words_up_to : List (ℕ × ℕ) → ℕ → List ℕ
words_up_to filled end = map (word_at filled) (range_with_len 0 end)

-- THE WORDS of a program up to the last one that a line fills.
abbrev pub program_words : List Line → List ℕ
program_words all = words_up_to (all_cells all all) (end_of (all_cells all all))

-- The program file: the size and the words, each in a line of eight octal digits.
abbrev pub file_of : List Line → List ℕ
file_of all = text_of (map (octal_digits 8) (unwrap_or (size_in all) 0 ∷ program_words all))

-- The program file, or the bad line if there is one.
abbrev pub file_or_bad : List Line → Option ℕ → Result (List ℕ) ℕ
file_or_bad all None = Ok (file_of all)
file_or_bad all (Some bad) = Err bad

-- THE RESULT OF ASSEMBLING a source: a program file, or its first bad line.
unfoldable pub assembled : List ℕ → Result (List ℕ) ℕ
assembled text = file_or_bad (source (lines_of text)) (first_bad (source (lines_of text)))
