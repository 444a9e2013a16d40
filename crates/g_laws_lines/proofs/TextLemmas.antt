-- Texts that consist of whole lines, none of which begins with `?`.
-- serves: DeviceLemmas, LawLemmas, LevelLemmas, PrintLemmas, SaidLemmas, ScriptLemmas, SessionTextLemmas, StateLemmas, TurnLemmas, UnitLemmas, and 2 more
use Rattle.std.proofs.Common.{◌≡◌, ◌≢◌, ◌+◌, ◌/◌, ◌%◌, ◌^◌, ◌==◌, ◌&&◌, ◌++◌, ℕ, zero, suc, Bool, true, false, not, nat_le, nat_lt, if◌then◌else◌, List, [], ◌∷◌, All, map, take, append-nil, eqb-true, refl, sym, ◌∙◌, ap, subst, arith}
use Rattle.std.specs.Fmt.{decimal, digit_glyph, digits, digits_onto}
use Rattle.std.specs.List.{list_all}
use Rattle.std.proofs.lemmas.Bool.{and_from, and_parts, false≢true}
use Rattle.std.proofs.lemmas.List.Concat.{flat_map-append}
use Rattle.std.proofs.lemmas.List.Elements.{All-cons, All-nil}
use Rattle.std.proofs.lemmas.List.Folds.{list_all-append}
use Rattle.g_lines.specs.Documents.{IsWhole}
use Rattle.g_lines.specs.Lines.{ended, lines_of, onto_first, text_of}
use Rattle.g_lines.proofs.LineLemmas.{text-lines}
use Rattle.g_name.specs.Grammar.{is_lang, is_name_char, is_word}
use Rattle.g_word.specs.Characters.{byte_of}
use Rattle.g_word.specs.Octal.{octal_digits}
use Rattle.g_laws_lines.specs.Lines.{HasLine}

-- the bytes are one line: none is a byte 10
abbrev pub is_line : List ℕ → Bool
is_line text = list_all (λ (byte : ℕ). not (byte == 10)) text

-- and so is each of these texts
abbrev pub are_lines : List (List ℕ) → Bool
are_lines texts = list_all is_line texts

-- the text begins with `?`
abbrev pub is_marked : List ℕ → Bool
is_marked [] = false
is_marked (byte ∷ bytes) = byte == 63

-- a run may print this line
abbrev pub may_print : List ℕ → Bool
may_print line = not (is_marked line) && is_line line

-- THE TEXT CONSISTS OF LINES that a run may print, each with its byte 10
pub record IsMade (text : List ℕ) : Type 0 where
  pub lines : List (List ℕ)
  pub is : text ≡ text_of lines
  pub all : list_all may_print lines ≡ true

pub made_none : IsMade []
made_none = record { lines = []; is = refl; all = refl }

pub made_one : (line : List ℕ) → may_print line ≡ true → IsMade (ended line)
made_one line may = record { lines = line ∷ []; is = sym (append-nil (ended line)); all = and_from _ _ may refl }

pub made_both : (a b : List ℕ) → IsMade a → IsMade b → IsMade (a ++ b)
made_both a b one two = record {
  lines = one.lines ++ two.lines;
  is = ap (λ (x : List ℕ). x ++ b) one.is ∙ ap (λ (x : List ℕ). text_of one.lines ++ x) two.is ∙ sym (flat_map-append ended one.lines two.lines);
  all = list_all-append may_print one.lines two.lines ∙ and_from _ _ one.all two.all;
}

pub made_more : (text line : List ℕ) → IsMade text → may_print line ≡ true → IsMade (text ++ ended line)
made_more text line made may = made_both text (ended line) made (made_one line may)

-- NO LINE OF IT begins with `?`
other_byte : (byte : ℕ) → not (byte == 10) ≡ true → byte ≢ 10
other_byte byte other is = false≢true (subst (λ (b : ℕ). not (b == 10) ≡ true) is other)

pub each_byte : (line : List ℕ) → is_line line ≡ true → All (λ (b : ℕ). b ≢ 10) line
each_byte [] is = All-nil (λ (b : ℕ). b ≢ 10)
each_byte (b ∷ line) is = let parts = and_parts _ _ is in All-cons (λ (c : ℕ). c ≢ 10) b line (other_byte b parts.0) (each_byte line parts.1)

each_line : (lines : List (List ℕ)) → list_all may_print lines ≡ true → All (λ (line : List ℕ). All (λ (b : ℕ). b ≢ 10) line) lines
each_line [] is = All-nil (λ (line : List ℕ). All (λ (b : ℕ). b ≢ 10) line)
each_line (line ∷ lines) is =
    let parts = and_parts _ _ is in
    All-cons (λ (l : List ℕ). All (λ (b : ℕ). b ≢ 10) l) line lines (each_byte line (and_parts _ _ parts.0).1) (each_line lines parts.1)

pub made_lines : (text : List ℕ) (made : IsMade text) → lines_of text ≡ made.lines
made_lines text made = ap lines_of made.is ∙ text-lines made.lines (each_line made.lines made.all)

pub made_whole : (text : List ℕ) → IsMade text → IsWhole text
made_whole text made = ap text_of (made_lines text made) ∙ sym made.is

pub made_has_none : (text : List ℕ) → IsMade text → HasLine 63 text → ⊥
made_has_none text made (line, front, back, has) =
    let may : list_all may_print (front ++ (63 ∷ line) ∷ back) ≡ true = ap (list_all may_print) (sym has ∙ made_lines text made) ∙ made.all in
    let parts = and_parts _ _ (sym (list_all-append may_print front ((63 ∷ line) ∷ back)) ∙ may) in
    false≢true parts.1

-- LINES of parts
pub both_line : (a b : List ℕ) → is_line a ≡ true → is_line b ≡ true → is_line (a ++ b) ≡ true
both_line a b one two = list_all-append (λ (byte : ℕ). not (byte == 10)) a b ∙ and_from _ _ one two

pub line_parts : (a b : List ℕ) → is_line (a ++ b) ≡ true → (is_line a ≡ true) × (is_line b ≡ true)
line_parts a b is = and_parts _ _ (sym (list_all-append (λ (byte : ℕ). not (byte == 10)) a b) ∙ is)

pub not_this : (this byte : ℕ) → byte ≢ this → not (byte == this) ≡ true
not_this this byte other = by (byte == this) refl
  where
    by : (b : Bool) → (byte == this) ≡ b → not b ≡ true
    by true e = absurd (other (eqb-true byte this e))
    by false e = refl

pub not_ten : (byte : ℕ) → byte ≢ 10 → not (byte == 10) ≡ true
not_ten byte other = not_this 10 byte other

pub map_line : (f : ℕ → ℕ) → ((i : ℕ) → f i ≢ 10) → (xs : List ℕ) → is_line (map f xs) ≡ true
map_line f other [] = refl
map_line f other (x ∷ xs) = and_from _ _ (not_ten (f x) (other x)) (map_line f other xs)

pub take_line : (n : ℕ) (text : List ℕ) → is_line text ≡ true → is_line (take n text) ≡ true
take_line zero text is = refl
take_line (suc n) [] is = refl
take_line (suc n) (b ∷ text) is = let parts = and_parts _ _ is in and_from _ _ parts.0 (take_line n text parts.1)

-- numbers
glyph_other : (d : ℕ) → digit_glyph false d ≢ 10
glyph_other d = by (nat_lt d 10)
  where
    by : (b : Bool) → (if b then 48 + d else 87 + d) ≢ 10
    by true e = let no : ⊥ = omega (arith, e) in no
    by false e = let no : ⊥ = omega (arith, e) in no

digits_line : (k base n : ℕ) (rest : List ℕ) → is_line rest ≡ true → is_line (digits_onto k base false n rest) ≡ true
digits_line zero base n rest is = is
digits_line (suc k) base n rest is = by (n / base == 0) (digits_line k base (n / base) (digit_glyph false (n % base) ∷ rest) more)
  where
    more : is_line (digit_glyph false (n % base) ∷ rest) ≡ true
    more = and_from _ _ (not_ten (digit_glyph false (n % base)) (glyph_other (n % base))) is

    by : (b : Bool) → is_line (digits_onto k base false (n / base) (digit_glyph false (n % base) ∷ rest)) ≡ true
        → is_line (if b then digit_glyph false (n % base) ∷ rest else digits_onto k base false (n / base) (digit_glyph false (n % base) ∷ rest)) ≡ true
    by true on = more
    by false on = on

pub decimal_line : (n : ℕ) → is_line (decimal n) ≡ true
unfolding digits
decimal_line n = digits_line 64 10 n [] refl

pub octal_line : (n word : ℕ) → is_line (octal_digits n word) ≡ true
unfolding octal_digits
octal_line zero word = refl
octal_line (suc n) word = and_from _ _ (not_ten (48 + word / 8 ^ n % 8) (λ e. let no : ⊥ = omega (arith, e) in no)) (octal_line n word)

-- names
char_other : (c : ℕ) → is_name_char c ≡ true → c ≢ 10
char_other c is e = false≢true (subst (λ (b : ℕ). is_name_char b ≡ true) e is)

chars_line : (text : List ℕ) → list_all is_name_char text ≡ true → is_line text ≡ true
chars_line [] is = refl
chars_line (c ∷ text) is = let parts = and_parts _ _ is in and_from _ _ (not_ten c (char_other c parts.0)) (chars_line text parts.1)

letter_other : (c : ℕ) → (nat_le 65 c && nat_le c 90) ≡ true → c ≢ 10
letter_other c is e = false≢true (subst (λ (b : ℕ). (nat_le 65 b && nat_le b 90) ≡ true) e is)

pub word_line : (word : List ℕ) → is_word word ≡ true → is_line word ≡ true
word_line [] is = refl
word_line (first ∷ others) is =
    let parts = and_parts _ _ is in
    and_from _ _ (not_ten first (letter_other first (and_parts _ _ parts.0).0)) (chars_line others parts.1)

pub lang_line : (lang : List ℕ) → is_lang lang ≡ true → is_line lang ≡ true
lang_line lang is = chars_line lang (and_parts _ _ is).1

-- characters of a program
pub byte_other : (code : ℕ) → byte_of code ≢ 10
byte_other code = by (nat_lt code 16) (nat_lt code 32)
  where
    by : (low middle : Bool) → (if low then code + 0x30 else (if middle then code + 0x10 else code + 0x20)) ≢ 10
    by true middle e = let no : ⊥ = omega (arith, e) in no
    by false true e = let no : ⊥ = omega (arith, e) in no
    by false false e = let no : ⊥ = omega (arith, e) in no

-- THE LINES OF A TEXT
onto_lines : (byte : ℕ) (lines : List (List ℕ)) → not (byte == 10) ≡ true → are_lines lines ≡ true → are_lines (onto_first byte lines) ≡ true
onto_lines byte [] other are = and_from _ _ (and_from _ _ other refl) refl
onto_lines byte (line ∷ lines) other are = let parts = and_parts _ _ are in and_from _ _ (and_from _ _ other parts.0) parts.1

pub lines_lines : (text : List ℕ) → are_lines (lines_of text) ≡ true
lines_lines [] = refl
lines_lines (byte ∷ text) = by (byte == 10) refl (lines_lines text)
  where
    by : (b : Bool) → (byte == 10) ≡ b → are_lines (lines_of text) ≡ true → are_lines (if b then [] ∷ lines_of text else onto_first byte (lines_of text)) ≡ true
    by true e are = are
    by false e are = onto_lines byte (lines_of text) (ap not e) are
