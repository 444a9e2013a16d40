-- WHAT IS TYPED AT A CONSOLE: an item as it is typed when the count of ticks has some value, and lines with which no item begins.
use Rattle.std.specs.Prelude.{◌≡◌, ◌⊎◌, ◌≤◌, ℕ, max, List, [], ◌∷◌, ◌++◌, length, codes}
use Rattle.std.specs.Fmt.{decimal}
use Rattle.g_lines.specs.Lines.{text_of}
use Rattle.g_script.specs.Script.{IsItem, WrittenItem, behind_head, item_lines, written_text}
use Rattle.g_typing.specs.declared.query.Query.{Query}
use Rattle.g_typing.specs.declared.query.Query.TheVariants as query

-- an item without a time is taken at once, and then the system runs until nothing can step; one with a time is taken as a line of a script, and
-- nothing runs after it
pub data When : Type 0 where
  AtOnce : When
  AtTime : When

-- a line typed at a terminal, in short: `T1 LISTDIR` for `TYPE 1,LISTDIR`, and `T1` for `TYPE 1,`; terminals have the digits from 1 to 8
abbrev pub IsShort : ℕ → List ℕ → List ℕ → Type 0
IsShort digit text line = ((49 ≤ digit) × (digit ≤ 56)) × (((text ≡ []) × (line ≡ 84 ∷ digit ∷ [])) ⊎ (line ≡ 84 ∷ digit ∷ 32 ∷ text))

abbrev pub type_text : ℕ → List ℕ → List ℕ
type_text digit text = codes "TYPE " ++ digit ∷ 44 ∷ text

-- a line without a time asks for an operator line: it is that line, or short for it
abbrev pub AsksFor : List ℕ → List ℕ → Type 0
AsksFor line asked = (line ≡ asked) ⊎ ((digit : ℕ) × (text : List ℕ) × IsShort digit text line × (asked ≡ type_text digit text))

-- its first line, as a script has it except for the time, or in short; a time in the past means now
abbrev pub IsTypedHead : ℕ → WrittenItem → When → List ℕ → Type 0
IsTypedHead count item AtOnce first = AsksFor first (written_text item.what) × (item.turn ≡ count)
IsTypedHead count item AtTime first = (t : ℕ) × (t ≤ 1000000000) × (first ≡ decimal t ++ (32 ∷ written_text item.what)) × (item.turn ≡ max t count)

-- AN ITEM IS TYPED in these lines
pub record IsTyped (count : ℕ) (item : WrittenItem) (when : When) (lines : List (List ℕ)) : Type 0 where
  pub is_item : IsItem item
  pub first : List ℕ
  pub head : IsTypedHead count item when first
  pub all : lines ≡ first ∷ behind_head item.what
  pub short : length first ≤ 160
  pub within : length (text_of (item_lines item)) ≤ 16777216

-- some item has these lines, and this one after them
abbrev pub CanFollow : ℕ → List (List ℕ) → List ℕ → Type 0
CanFollow count lines next =
    (item : WrittenItem) × (when : When) × (all : List (List ℕ)) × IsTyped count item when all × ((more : List (List ℕ)) × (all ≡ lines ++ next ∷ more))

-- no lines, or the first lines of an item that isn't complete yet
abbrev pub IsUnfinished : ℕ → List (List ℕ) → Type 0
IsUnfinished count lines = (lines ≡ []) ⊎ ((next : List ℕ) × CanFollow count lines next)

-- the first line of a JOB, good or bad: a document follows it
abbrev pub BeginsDocument : List ℕ → Type 0
BeginsDocument first =
    ((rest : List ℕ) × (first ≡ codes "JOB " ++ rest))
    ⊎ ((t : ℕ) × (rest : List ℕ) × (t ≤ 1000000000) × (first ≡ decimal t ++ (32 ∷ (codes "JOB " ++ rest))))

-- A QUESTION to the console, which isn't an item: where things stand; what may be typed; what the refusal of some number means
abbrev pub IsQuery : List ℕ → Query → Type 0
IsQuery line query.State = line ≡ codes "?"
IsQuery line query.Help = line ≡ codes "HELP"
IsQuery line (query.Refusal n) = (n ≤ 99) × (line ≡ codes "HELP " ++ decimal n)

-- a line asks no question
abbrev pub IsUnasked : List ℕ → Type 0
IsUnasked line = (q : Query) → IsQuery line q → ⊥

abbrev pub first_of : List (List ℕ) → List ℕ → List ℕ
first_of [] line = line
first_of (first ∷ lines) line = first
