-- Words of texts, and the part before a byte.
-- serves: before (short, value), label, next_word, put_chars, without_back, FormLemmas, LineLemmas
use Rattle.std.proofs.Common.{◌≡◌, ◌≢◌, ◌≤◌, ◌∙◌, ℕ, List, [], ◌∷◌, ◌++◌, All, Bool, IfSome, IsSome, Option, Some, None, true, false, ap, arith, drop, length, length-append, refl, sym}
use Rattle.std.specs.Prelude.{◌&&◌, ◌==◌, filter, nat_le}
use Rattle.std.specs.List.{AllByRecursion, list_all, slice_split}
use Rattle.std.proofs.lemmas.Bool.{and_from, and_parts, cond_both, eq-eqb, eqb-false, eqb-true, false≢true, le-leb, leb-true, ne_eqb}
use Rattle.std.proofs.lemmas.List.Elements.{recursion_from_All}
use Rattle.g_name.specs.Grammar.{is_letter, is_name_char, is_word}
use Rattle.g_plan.specs.Words.{before, before_rest, behind_label, front_of, is_label, is_label_byte, is_some_text, is_space, label_read, without_back, without_front, words}

-- the part before a byte
pub before-all : (stop : ℕ) (text : List ℕ) → AllByRecursion (λ b. b ≢ stop) text → before stop text ≡ text
before-all stop [] all = refl
before-all stop (c ∷ cs) all = rw (ne_eqb c stop all.0, before-all stop cs all.1) refl

pub before-found : (stop : ℕ) (xs ys : List ℕ) → AllByRecursion (λ b. b ≢ stop) xs → before stop (xs ++ stop ∷ ys) ≡ xs
before-found stop [] ys all = rw (eq-eqb stop stop refl) refl
before-found stop (c ∷ cs) ys all = rw (ne_eqb c stop all.0, before-found stop cs ys all.1) refl

pub before-split : (stop : ℕ) (text front rest : List ℕ) → text ≡ front ++ stop ∷ rest → All (λ b. b ≢ stop) front → before stop text ≡ front
before-split stop text front rest is none = ap (before stop) is ∙ before-found stop front rest (recursion_from_All (λ b. b ≢ stop) front none)

pub before-whole : (stop : ℕ) (text : List ℕ) → All (λ b. b ≢ stop) text → before stop text ≡ text
before-whole stop text none = before-all stop text (recursion_from_All (λ b. b ≢ stop) text none)

pub before-drop : (stop : ℕ) (text : List ℕ) → before stop text ++ drop (length (before stop text)) text ≡ text
before-drop stop [] = refl
before-drop stop (c ∷ cs) =
    cond_both (c == stop) [] (c ∷ before stop cs) (λ (front : List ℕ). front ++ drop (length front) (c ∷ cs) ≡ c ∷ cs)
    (λ is. refl) (λ other. ap (λ (rest : List ℕ). c ∷ rest) (before-drop stop cs))

-- the parts of a text between spaces: the first, and those of the rest
abbrev rest_parts : List ℕ → List (List ℕ)
rest_parts [] = []
rest_parts (c ∷ cs) = slice_split is_space cs

parts_step : (c : ℕ) (cs : List ℕ) (b : Bool) → (c == 32) ≡ b → slice_split is_space cs ≡ front_of cs ∷ rest_parts (behind_label cs)
    → slice_split is_space (c ∷ cs) ≡ front_of (c ∷ cs) ∷ rest_parts (behind_label (c ∷ cs))
parts_step c cs true is parts = rw is refl
parts_step c cs false is parts = rw (is, parts) refl

parts_of : (text : List ℕ) → slice_split is_space text ≡ front_of text ∷ rest_parts (behind_label text)
parts_of [] = refl
parts_of (c ∷ cs) = parts_step c cs (c == 32) refl (parts_of cs)

behind_step : (c : ℕ) (cs : List ℕ) (b : Bool) → (c == 32) ≡ b → filter is_some_text (rest_parts (behind_label cs)) ≡ words (behind_label cs)
    → filter is_some_text (rest_parts (behind_label (c ∷ cs))) ≡ words (behind_label (c ∷ cs))
behind_step c cs true is same = rw is (rw is refl)
behind_step c cs false is same = rw is same

words_behind : (text : List ℕ) → filter is_some_text (rest_parts (behind_label text)) ≡ words (behind_label text)
words_behind [] = refl
words_behind (c ∷ cs) = behind_step c cs (c == 32) refl (words_behind cs)

abbrev pub some_word : List ℕ → List (List ℕ) → List (List ℕ)
some_word [] ws = ws
some_word (c ∷ cs) ws = (c ∷ cs) ∷ ws

some_kept : (front : List ℕ) (parts : List (List ℕ)) → filter is_some_text (front ∷ parts) ≡ some_word front (filter is_some_text parts)
some_kept [] parts = refl
some_kept (c ∷ cs) parts = refl

pub words_split : (text : List ℕ) → words text ≡ some_word (front_of text) (words (behind_label text))
words_split text =
    ap (filter is_some_text) (parts_of text) ∙ some_kept (front_of text) (rest_parts (behind_label text)) ∙ ap (some_word (front_of text)) (words_behind text)

-- leading spaces
front_step : (c : ℕ) (cs : List ℕ) (b : Bool) → (c == 32) ≡ b → words (without_front cs) ≡ words cs → words (without_front (c ∷ cs)) ≡ words (c ∷ cs)
front_step c cs true is same = rw is same
front_step c cs false is same = rw is (rw is refl)

pub words_front : (text : List ℕ) → words (without_front text) ≡ words text
words_front [] = refl
words_front (c ∷ cs) = front_step c cs (c == 32) refl (words_front cs)

some_step : (c : ℕ) (cs : List ℕ) (b : Bool) → (c == 32) ≡ b → is_some_text (front_of (without_front cs)) ≡ is_some_text (without_front cs)
    → is_some_text (front_of (without_front (c ∷ cs))) ≡ is_some_text (without_front (c ∷ cs))
some_step c cs true is same = rw is same
some_step c cs false is same = rw is (rw is refl)

pub front_some : (text : List ℕ) → is_some_text (front_of (without_front text)) ≡ is_some_text (without_front text)
front_some [] = refl
front_some (c ∷ cs) = some_step c cs (c == 32) refl (front_some cs)

pub next-none : (text rest : List ℕ) → rest ≡ without_front text → rest ≡ [] → words text ≡ []
next-none text rest is empty = sym (words_front text) ∙ ap words (sym is ∙ empty)

first_word : (front : List ℕ) (ws : List (List ℕ)) → is_some_text front ≡ true → some_word front ws ≡ front ∷ ws
first_word [] ws is = cc
first_word (c ∷ cs) ws is = refl

is_some : (text : List ℕ) → (text ≡ [] → ⊥) → is_some_text text ≡ true
is_some [] some = absurd (some refl)
is_some (c ∷ cs) some = refl

pub next-some : (text rest word behind : List ℕ) → rest ≡ without_front text → (rest ≡ [] → ⊥) → word ≡ before 32 rest → behind ≡ drop (length word) rest
    → words text ≡ word ∷ words behind
next-some text rest word behind is some front back =
    let starts : is_some_text (front_of rest) ≡ true =
    ap (λ (t : List ℕ). is_some_text (front_of t)) is ∙ front_some text ∙ ap is_some_text (sym is) ∙ is_some rest some in
    let behind_is : behind_label rest ≡ behind = sym (back ∙ ap (λ (w : List ℕ). drop (length w) rest) front) in
    sym (words_front text) ∙ ap words (sym is) ∙ words_split rest ∙ first_word (front_of rest) (words (behind_label rest)) starts
    ∙ ap (λ (w : List ℕ). w ∷ words (behind_label rest)) (sym front) ∙ ap (λ (b : List ℕ). word ∷ words b) behind_is

-- trailing spaces
pub back-space : (text : List ℕ) → without_back (text ++ 32 ∷ []) ≡ without_back text
back-space [] = refl
back-space (c ∷ cs) = ap (before_rest c) (back-space cs)

before_more : (d : ℕ) (text : List ℕ) (c : ℕ) → before_rest d (text ++ c ∷ []) ≡ d ∷ text ++ c ∷ []
before_more d [] c = refl
before_more d (e ∷ text) c = refl

pub back-other : (text : List ℕ) (c : ℕ) → c ≢ 32 → without_back (text ++ c ∷ []) ≡ text ++ c ∷ []
back-other [] c other = rw (ne_eqb c 32 other) refl
back-other (d ∷ text) c other = ap (before_rest d) (back-other text c other) ∙ before_more d text c

before_some : (c : ℕ) (rest : List ℕ) → c ≢ 32 → before_rest c rest ≡ c ∷ rest
before_some c [] other = rw (ne_eqb c 32 other) refl
before_some c (d ∷ rest) other = refl

pub back-kept : (front rest : List ℕ) → AllByRecursion (λ c. c ≢ 32) front → without_back (front ++ rest) ≡ front ++ without_back rest
back-kept [] rest all = refl
back-kept (c ∷ front) rest all = ap (before_rest c) (back-kept front rest all.1) ∙ before_some c (front ++ without_back rest) all.0

front_rest : (c : ℕ) (rest : List ℕ) → (c ≡ 32) → front_of (before_rest c rest) ≡ []
front_rest c [] is = rw (eq-eqb c 32 is) refl
front_rest c (d ∷ rest) is = rw (eq-eqb c 32 is) refl

back_step : (c : ℕ) (cs : List ℕ) (b : Bool) → (c == 32) ≡ b → front_of (without_back cs) ≡ front_of cs → front_of (without_back (c ∷ cs)) ≡ front_of (c ∷ cs)
back_step c cs true is same = front_rest c (without_back cs) (eqb-true c 32 is) ∙ rw is refl
back_step c cs false is same = ap front_of (before_some c (without_back cs) (eqb-false c 32 is)) ∙ rw is (ap (λ (t : List ℕ). c ∷ t) same)

pub front-back : (text : List ℕ) → front_of (without_back text) ≡ front_of text
front-back [] = refl
front-back (c ∷ cs) = back_step c cs (c == 32) refl (front-back cs)

-- a label is a name
word_byte : (c : ℕ) → is_label_byte c ≡ true → is_name_char c ≡ true
word_byte c is = rw is refl

word_bytes : (cs : List ℕ) → list_all is_label_byte cs ≡ true → list_all is_name_char cs ≡ true
word_bytes [] all = refl
word_bytes (c ∷ cs) all =
    let parts = and_parts (is_label_byte c) (list_all is_label_byte cs) all in
    and_from (is_name_char c) (list_all is_name_char cs) (word_byte c parts.0) (word_bytes cs parts.1)

pub label-word : (text : List ℕ) → is_label text ≡ true → is_word text ≡ true
label-word [] is = is
label-word (c ∷ cs) is =
    let front = and_parts (is_letter c && nat_le (length cs) 7) (list_all is_label_byte cs) is in
    let letter = and_parts (is_letter c) (nat_le (length cs) 7) front.0 in
    let few = leb-true (length cs) 7 letter.1 in
    and_from (is_letter c && nat_le (length cs) 11) (list_all is_name_char cs)
    (and_from (is_letter c) (nat_le (length cs) 11) letter.0 (le-leb (length cs) 11 (omega (arith, few)))) (word_bytes cs front.1)

pub label-read : (text : List ℕ) (o : Option (List ℕ)) → is_label text ≡ true → IsSome o → IfSome o (λ l. l ≡ text) → o ≡ label_read text
label-read text None good some is = absurd (false≢true some)
label-read text (Some l) good some is = ap Some is ∙ sym (rw good refl)

-- the loop that removes trailing spaces
pub back-done : (front rest text : List ℕ) (last : ℕ) → rest ≡ front ++ last ∷ [] → last ≢ 32 → without_back rest ≡ without_back text → rest ≡ without_back text
back-done front rest text last is other same = is ∙ (sym (back-other front last other) ∙ (ap without_back (sym is) ∙ same))

pub back-more : (front rest text : List ℕ) (last : ℕ) → rest ≡ front ++ last ∷ [] → last ≡ 32 → without_back rest ≡ without_back text → without_back front ≡ without_back text
back-more front rest text last is space same =
    sym (back-space front) ∙ (ap (λ (c : ℕ). without_back (front ++ c ∷ [])) (sym space) ∙ (ap without_back (sym is) ∙ same))

pub front-short : (stop : ℕ) (text front rest : List ℕ) → text ≡ front ++ stop ∷ rest → length front ≤ length text
front-short stop text front rest is = let whole = ap length is in let parts = length-append front (stop ∷ rest) in omega (arith, whole, parts)

pub no_length : (text : List ℕ) → length text ≡ 0 → text ≡ []
no_length [] is = refl
no_length (c ∷ cs) is = absurd (omega (arith, is))

pub some_length : (text : List ℕ) → (length text ≡ 0 → ⊥) → text ≡ [] → ⊥
some_length text some is = some (ap length is)
