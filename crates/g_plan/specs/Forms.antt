-- The written forms of lines.
use Rattle.std.specs.Fmt.{decimal}
use Rattle.std.specs.Prelude.{◌≡◌, ◌+◌, ◌-◌, ◌^◌, ◌<◌, ◌≤◌, ◌⊎◌, ℕ, List, [], ◌∷◌, ◌++◌, Bool, true, false, Option, Some, None, codes, length}
use Rattle.std.specs.List.{list_all}
use Rattle.g_plan.specs.Table.{name_text, row_of}
use Rattle.g_plan.specs.Words.{behind_label, front_of, is_label, is_printed, label_in, without_back, without_front, words}
use Rattle.g_plan.specs.declared.form.Form.{Form}
use Rattle.g_plan.specs.declared.form.Form.TheVariants.{Nothing, Program, At, Word, Chars, Order}
use Rattle.g_plan.specs.declared.form.Value.{Value}
use Rattle.g_plan.specs.declared.form.Value.TheVariants.{Number, Named}

-- The text is a value: a decimal number up to `most`, or a label.
abbrev pub IsValue : ℕ → Value → List ℕ → Type 0
IsValue most (Number n) text = (n ≤ most) × (text ≡ decimal n)
IsValue most (Named label) text = (is_label label ≡ true) × (text ≡ label)

-- The text is a negative number, from -1 to -2^23, which counts modulo 2^24.
abbrev pub IsNegative : Value → List ℕ → Type 0
IsNegative v text = (n : ℕ) × (1 ≤ n) × (n ≤ 2 ^ 23) × (v ≡ Number (2 ^ 24 - n)) × (text ≡ 45 ∷ decimal n)

-- The text is the word of a WORD line: a value below 2^24, or a negative number.
abbrev pub IsWord : Value → List ℕ → Type 0
IsWord v text = IsValue (2 ^ 24 - 1) v text ⊎ IsNegative v text

-- The text is the modifier after an address: empty, or a digit from 1 to 3 in brackets.
abbrev pub IsModifier : Bool → ℕ → List ℕ → Type 0
IsModifier may m text = ((m ≡ 0) × (text ≡ [])) ⊎ ((may ≡ true) × (1 ≤ m) × (m ≤ 3) × (text ≡ 40 ∷ (48 + m) ∷ 41 ∷ []))

-- The words for the accumulator: one digit from 0 to 7, or none if the name determines it.
abbrev pub IsAccumulator : Option ℕ → ℕ → List (List ℕ) → Type 0
IsAccumulator None x texts = (x < 8) × (texts ≡ ((48 + x) ∷ []) ∷ [])
IsAccumulator (Some y) x texts = (x ≡ y) × (texts ≡ [])

-- The words for the address, if the name has one: a value and its modifier.
abbrev pub IsAddressOf : Option ℕ → Bool → ℕ → Value → List (List ℕ) → Type 0
IsAddressOf None may m v texts = (m ≡ 0) × (v ≡ Number 0) × (texts ≡ [])
IsAddressOf (Some most) may m v texts =
    (address : List ℕ) × (modifier : List ℕ) × IsValue (2 ^ 24) v address × IsModifier may m modifier × (texts ≡ (address ++ modifier) ∷ [])

-- WHAT A LINE SAYS after its label, by its words and by their text.
abbrev pub Says : Form → List (List ℕ) → List ℕ → Type 0
Says Nothing ws rest = ws ≡ []
Says (Program n) ws rest = (32 ≤ n) × (n ≤ 32768) × (ws ≡ codes "PROGRAM" ∷ decimal n ∷ [])
Says (At n) ws rest = (n ≤ 32767) × (ws ≡ codes "AT" ∷ decimal n ∷ [])
Says (Word v) ws rest = (text : List ℕ) × IsWord v text × (ws ≡ codes "WORD" ∷ text ∷ [])
Says (Chars text) ws rest = (1 ≤ length text) × (length text ≤ 40) × (without_back (without_front rest) ≡ codes "CHARS " ++ text)
Says (Order name x m v) ws rest =
    (xs : List (List ℕ)) × (texts : List (List ℕ)) × IsAccumulator (row_of name).x x xs
    × IsAddressOf (row_of name).most (row_of name).modified m v texts × (ws ≡ name_text name ∷ xs ++ texts)

-- PROGRAM and AT may not have a label.
abbrev pub MayBeNamed : Form → Type 0
MayBeNamed (Program n) = ⊥
MayBeNamed (At n) = ⊥
MayBeNamed form = Unit {0}

-- A line begins with its label, or with a space, or is empty.
abbrev pub HasPlace : Option (List ℕ) → List ℕ → Form → Type 0
HasPlace (Some label) line form = MayBeNamed form
HasPlace None line form = front_of line ≡ []

-- THE FORM OF A LINE: it has printed bytes only, and says the form after its label.
pub record IsForm (form : Form) (line : List ℕ) : Type 0 where
  pub printed : list_all is_printed line ≡ true
  pub label : HasPlace (label_in line) line form
  pub says : Says form (words (behind_label line)) (behind_label line)
