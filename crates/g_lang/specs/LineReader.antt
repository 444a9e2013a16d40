-- How lines are read: a reader that takes one byte after another, and what a line of the grammar says. None of this has to be believed: the law
-- `lines_are_read_by_the_grammar` relates it to the grammar.
use Rattle.std.specs.Prelude.{Bool, Err, List, None, Ok, Option, Some, [], codes, false, if◌then◌else◌, length, map, nat_lt, not, pred, suc, true, zero, ℕ, ◌&&◌, ◌++◌, ◌+◌, ◌==◌, ◌||◌, ◌∷◌}
use Rattle.g_lang.specs.Conditions.{is_param_letter}
use Rattle.g_lang.specs.Lines.{LineSaid, Reading, Said, SaidGoto, SaidIf, SaidVerb, SaidWhenever}
use Rattle.g_lang.specs.Words.{is_label, is_printed, trimmed, without_front, word_of}
use Rattle.g_lang.specs.declared.line.Cond.{Cond}
use Rattle.g_lang.specs.declared.line.Test.{Test}
use Rattle.g_lang.specs.declared.line.Test.TheVariants.{Absent, CommandError, Deleted, Equals, Failed, Halted, Present}
use Rattle.g_lines.specs.Lines.{onto_first}
use Rattle.g_name.specs.Grammar.{is_digit, is_letter, is_name_char}
use Rattle.g_name.specs.Order.{same_text}

-- What follows a fixed text of a condition: a test; the comma; a text in brackets; a letter, with a text to compare or without.
pub data Next : Type 0 where
  ATest : Next
  AComma : Next
  AText : Next
  ALetter : Bool → Next

-- The states of the reader, by its place in a line.
pub data State : Type 0 where
  Front : State
  InLabel : ℕ → State
  Gap : State
  Word : List ℕ → Bool → State
  ATestFrom : Bool → State
  Fixed : ℕ → List ℕ → Next → State
  Letter : Bool → State
  InText : State
  BeforeComma : State
  ALabel : State
  InGoto : ℕ → State
  Back : State
  VerbGap : State
  Params : ℕ → State

-- The state after a fixed text, by what follows it.
abbrev pub behind_fixed : Next → State
behind_fixed ATest = ATestFrom true
behind_fixed AComma = BeforeComma
behind_fixed AText = InText
behind_fixed (ALetter equals) = Letter equals

-- The state within a fixed text of which `rest` is left; the state `Fixed` has its next byte first.
abbrev pub fixed : List ℕ → Next → State
fixed [] next = behind_fixed next
fixed (c ∷ rest) next = Fixed c rest next

-- The state after the first byte of a condition's fixed text; NOT is allowed once.
abbrev pub test_from : Bool → ℕ → Option State
test_from negated c =
    if (c == 78) && not negated then Some (fixed (codes "OT ") ATest)
    else if c == 67 then Some (fixed (codes "OMMAND ERROR") AComma)
    else if c == 70 then Some (fixed (codes "AILED") AComma)
    else if c == 72 then Some (fixed (codes "ALTED(") AText)
    else if c == 68 then Some (fixed (codes "ELETED(") AText)
    else if c == 80 then Some (fixed (codes "RESENT(%") (ALetter false))
    else if c == 65 then Some (fixed (codes "BSENT(%") (ALetter false))
    else if c == 83 then Some (fixed (codes "TRING(%") (ALetter true))
    else None

-- The state after a word that ends with a space.
abbrev pub state_behind_word : List ℕ → Bool → Option State
state_behind_word word inner =
    if same_text word (codes "IF") || same_text word (codes "WHENEVER") then Some (ATestFrom false)
    else if same_text word (codes "GOTO") then Some ALabel
    else if same_text word (codes "INPUT") && inner then None
    else Some VerbGap

-- The state after the next byte of a command's first word.
abbrev pub in_word : List ℕ → Bool → ℕ → Option State
in_word [] inner c = if is_letter c then Some (Word (c ∷ []) inner) else None
in_word (first ∷ word) inner c =
    if is_name_char c && nat_lt (length word) 11 then Some (Word ((first ∷ word) ++ c ∷ []) inner)
    else if c == 32 then state_behind_word (first ∷ word) inner
    else None

-- The state after the next byte of parameters, by the number of open brackets.
abbrev pub in_params : ℕ → ℕ → Option State
in_params depth c =
    if c == 40 then Some (Params (depth + 1))
    else if c == 41 then (if depth == 0 then None else Some (Params (pred depth)))
    else if is_printed c then Some (Params depth)
    else None

-- The state after the next byte, or none if no line continues with it.
abbrev pub step : ℕ → State → Option State
step c Front = if c == 32 then Some Front else if is_digit c then Some (InLabel 1) else in_word [] false c
step c (InLabel n) = if is_name_char c && nat_lt n 12 then Some (InLabel (n + 1)) else if c == 32 then Some Gap else None
step c Gap = if c == 32 then Some Gap else in_word [] false c
step c (Word word inner) = in_word word inner c
step c (ATestFrom negated) = test_from negated c
step c (Fixed f rest next) = if c == f then Some (fixed rest next) else None
step c (Letter equals) =
    if is_param_letter c then Some (if equals then fixed (codes ")=(") AText else fixed (codes ")") AComma) else None
step c InText = if c == 41 then Some BeforeComma else if is_printed c && not (c == 40) then Some InText else None
step c BeforeComma = if c == 44 then Some (Word [] true) else None
step c ALabel = if is_digit c then Some (InGoto 1) else None
step c (InGoto n) = if is_name_char c && nat_lt n 12 then Some (InGoto (n + 1)) else if c == 32 then Some Back else None
step c Back = if c == 32 then Some Back else None
step c VerbGap = if c == 32 then Some VerbGap else in_params 0 c
step c (Params depth) = in_params depth c

-- A line may end in this state.
abbrev pub may_end : State → Bool
may_end Front = true
may_end (InLabel n) = true
may_end Gap = true
may_end (Word [] inner) = false
may_end (Word (first ∷ word) inner) =
    not (same_text (first ∷ word) (codes "IF") || same_text (first ∷ word) (codes "WHENEVER") || same_text (first ∷ word) (codes "GOTO") || (same_text (first ∷ word) (codes "INPUT") && inner))
may_end (ATestFrom negated) = false
may_end (Fixed f rest next) = false
may_end (Letter equals) = false
may_end InText = false
may_end BeforeComma = false
may_end ALabel = false
may_end (InGoto n) = true
may_end Back = true
may_end VerbGap = true
may_end (Params depth) = depth == 0

-- The place where a text read from this state goes wrong, counted from `at`; none if it doesn't.
abbrev pub wrong_from : State → ℕ → List ℕ → Option ℕ
wrong_from s at [] = if may_end s then None else Some at
wrong_from s at (c ∷ cs) = elim (step c s) [ None ↦ Some at | Some t ↦ wrong_from t (at + 1) cs ]

-- The rest of a text after a given front, if the text begins with it.
abbrev pub behind : List ℕ → List ℕ → Option (List ℕ)
behind [] text = Some text
behind (f ∷ front) [] = None
behind (f ∷ front) (c ∷ cs) = if f == c then behind front cs else None

-- The number of open brackets after a byte.
abbrev pub depth_behind : ℕ → ℕ → ℕ
depth_behind c depth = if c == 40 then depth + 1 else if c == 41 then pred depth else depth

-- The parts of a text between the commas outside of brackets.
abbrev pub parts_of : ℕ → List ℕ → List (List ℕ)
parts_of depth [] = [] ∷ []
parts_of depth (c ∷ cs) =
    if c == 44 && depth == 0 then [] ∷ parts_of 0 cs else onto_first c (parts_of (depth_behind c depth) cs)

-- The text before the first comma outside of brackets.
abbrev pub before_comma : ℕ → List ℕ → List ℕ
before_comma depth [] = []
before_comma depth (c ∷ cs) = if c == 44 && depth == 0 then [] else c ∷ before_comma (depth_behind c depth) cs

-- The text after the first comma outside of brackets.
abbrev pub behind_comma : ℕ → List ℕ → List ℕ
behind_comma depth [] = []
behind_comma depth (c ∷ cs) = if c == 44 && depth == 0 then cs else behind_comma (depth_behind c depth) cs

-- The text without its last byte.
abbrev pub without_last : List ℕ → List ℕ
without_last [] = []
without_last (c ∷ []) = []
without_last (c ∷ d ∷ cs) = c ∷ without_last (d ∷ cs)

-- The first byte of a text.
abbrev pub letter_of : List ℕ → ℕ
letter_of [] = 65
letter_of (c ∷ cs) = c

-- The text after a letter and `)=(`.
abbrev pub behind_equals : List ℕ → List ℕ
behind_equals (letter ∷ a ∷ b ∷ c ∷ rest) = rest
behind_equals rest = []

-- The test of a parameter that a text is.
abbrev pub letter_test_read : List ℕ → Test
letter_test_read text = elim (behind (codes "PRESENT(%") text) [
  | Some rest ↦ Present (letter_of rest)
  | None ↦ elim (behind (codes "ABSENT(%") text) [
    | Some rest ↦ Absent (letter_of rest)
    | None ↦ elim (behind (codes "STRING(%") text) [
      | Some rest ↦ Equals (letter_of rest) (without_last (behind_equals rest))
      | None ↦ Failed
    ]
  ]
]

-- The test that a text is.
abbrev pub test_read : List ℕ → Test
test_read text =
    if same_text text (codes "COMMAND ERROR") then CommandError
    else if same_text text (codes "FAILED") then Failed
    else elim (behind (codes "HALTED(") text) [
      | Some rest ↦ Halted (without_last rest)
      | None ↦ elim (behind (codes "DELETED(") text) [ Some rest ↦ Deleted (without_last rest) | None ↦ letter_test_read text ]
    ]

-- The condition that a text is.
abbrev pub cond_read : List ℕ → Cond
cond_read text = elim (behind (codes "NOT ") text) [
  | Some test ↦ record { negated = true; test = test_read test }
  | None ↦ record { negated = false; test = test_read text }
]

-- The parameters in a text, without the spaces around them; an empty text has none.
abbrev pub params_read : List ℕ → List (List ℕ)
params_read [] = []
params_read (c ∷ cs) = map trimmed (parts_of 0 (c ∷ cs))

-- The text after its first word and the spaces after that.
abbrev pub behind_word : List ℕ → List ℕ
behind_word [] = []
behind_word (c ∷ cs) = if c == 32 then without_front (c ∷ cs) else behind_word cs

-- What a command says that begins with a verb.
abbrev pub verb_read : List ℕ → Said
verb_read text = SaidVerb (word_of text) (params_read (behind_word text)) (behind_word text)

-- What the text of a command says; n bounds the number of its conditions, of which it has no more than bytes.
abbrev pub command_read : ℕ → List ℕ → Said
command_read zero text = verb_read text
command_read (suc n) text = elim (behind (codes "IF ") text) [
  | Some rest ↦ SaidIf (cond_read (before_comma 0 rest)) (command_read n (behind_comma 0 rest))
  | None ↦ elim (behind (codes "WHENEVER ") text) [
    | Some rest ↦ SaidWhenever (cond_read (before_comma 0 rest)) (behind_comma 0 rest)
    | None ↦ elim (behind (codes "GOTO ") text) [ Some label ↦ SaidGoto label | None ↦ verb_read text ]
  ]
]

-- What a command says; an empty text has no command.
abbrev pub option_read : List ℕ → Option Said
option_read [] = None
option_read (c ∷ cs) = Some (command_read (suc (length cs)) (c ∷ cs))

-- What a line of the grammar says, once the spaces at its ends are removed.
abbrev pub read_trimmed : List ℕ → LineSaid
read_trimmed text =
    if is_label (word_of text) then record { label = Some (word_of text); command = option_read (behind_word text) }
    else record { label = None; command = option_read text }

-- What a line of the grammar says.
abbrev pub line_read : List ℕ → LineSaid
line_read text = read_trimmed (trimmed text)

-- THE READING of a line: what it says, or the place where it goes wrong.
unfoldable pub reading : List ℕ → Reading
reading text = elim (wrong_from Front 0 text) [ None ↦ Ok (line_read text) | Some place ↦ Err place ]
