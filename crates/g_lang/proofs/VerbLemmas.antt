-- A line that begins with a verb goes wrong where its parameters do.
-- serves: reader, CutLemmas
use Rattle.std.proofs.Common.{List, None, Option, Some, [], ap, append-nil, append_assoc, arith, codes, eqb-true, false, length, length-append, lt-ltb, nat_lt, refl, subst, suc, sym, true, zero, ℕ, ◌&&◌, ◌++◌, ◌+◌, ◌-◌, ◌==◌, ◌∙◌, ◌∷◌, ◌≡◌, ◌≤◌}
use Rattle.std.proofs.lemmas.Bool.{and_parts, and_right, cond_both, false≢true}
use Rattle.std.specs.List.{list_all}
use Rattle.g_lang.proofs.ReadLemmas.{letter_no_digit}
use Rattle.g_lang.proofs.PlaceLemmas.{takes}
use Rattle.g_lang.proofs.ReadingLemmas.{taken_none}
use Rattle.g_lang.proofs.ValueLemmas.{behind-is}
use Rattle.g_lang.proofs.SpaceLemmas.{at_space, digit-name_char, letter-name_char, name_char-no_space}
use Rattle.g_lang.proofs.TakeLemmas.{label_goto, label_parts, verb_end, verb_state, word_parts}
use Rattle.g_lang.specs.LineReader.{ALabel, Front, Gap, InLabel, Params, State, VerbGap, Word, behind, behind_word, in_params, may_end, step, wrong_from}
use Rattle.g_lang.specs.Lines.{is_verb}
use Rattle.g_lang.specs.Words.{is_label, spaces, without_front, word_of}
use Rattle.g_name.specs.Grammar.{is_name_char, is_word}
use Rattle.g_name.specs.Order.{same_text}

-- the reader continues after a byte
on : (s t : State) (at c : ℕ) (cs : List ℕ) → step c s ≡ Some t → wrong_from s at (c ∷ cs) ≡ wrong_from t (at + 1) cs
on s t at c cs goes = ap (λ (o : Option State). elim o [ None ↦ Some at | Some t ↦ wrong_from t (at + 1) cs ]) goes

-- counted from an equal place
from : (s : State) (t : List ℕ) (a b : ℕ) → a ≡ b → wrong_from s a t ≡ wrong_from s b t
from s t a b same = ap (λ (k : ℕ). wrong_from s k t) same

-- the leading spaces
front_on : (n at : ℕ) (t : List ℕ) → wrong_from Front at (spaces n ++ t) ≡ wrong_from Front (at + n) t
front_on zero at t = from Front t at (at + 0) (omega arith)
front_on (suc n) at t = front_on n (at + 1) t ∙ from Front t (at + 1 + n) (at + suc n) (omega arith)

-- a word
word_on : (first : ℕ) (word xs t : List ℕ) (at : ℕ) → list_all is_name_char xs ≡ true → length word + length xs ≤ 11
    → wrong_from (Word (first ∷ word) false) at (xs ++ t) ≡ wrong_from (Word ((first ∷ word) ++ xs) false) (at + length xs) t
word_on first word [] t at all fits =
    ap (λ (w : List ℕ). wrong_from (Word w false) at t) (sym (append-nil (first ∷ word))) ∙ from (Word ((first ∷ word) ++ []) false) t at (at + 0) (omega arith)
word_on first word (c ∷ xs) t at all fits =
    let both = and_parts (is_name_char c) (list_all is_name_char xs) all in
    let room : nat_lt (length word) 11 ≡ true = lt-ltb (length word) 11 (omega (arith, fits)) in
    let goes : step c (Word (first ∷ word) false) ≡ Some (Word ((first ∷ word) ++ c ∷ []) false) = rw (both.0, room) refl in
    let more : length (word ++ c ∷ []) + length xs ≤ 11 = omega (arith, fits, length-append word (c ∷ [])) in
    on (Word (first ∷ word) false) (Word ((first ∷ word) ++ c ∷ []) false) at c (xs ++ t) goes
    ∙ word_on first (word ++ c ∷ []) xs t (at + 1) both.1 more
    ∙ ap (λ (w : List ℕ). wrong_from (Word w false) (at + 1 + length xs) t) (append_assoc (first ∷ word) (c ∷ []) xs)
    ∙ from (Word ((first ∷ word) ++ c ∷ xs) false) t (at + 1 + length xs) (at + suc (length xs)) (omega arith)

whole_on : (name t : List ℕ) (at : ℕ) → is_word name ≡ true → wrong_from Front at (name ++ t) ≡ wrong_from (Word name false) (at + length name) t
whole_on [] t at is = absurd (false≢true is)
whole_on (c ∷ cs) t at is =
    let parts = word_parts c cs is in
    let fits = parts.1 in
    let goes : step c Front ≡ Some (Word (c ∷ []) false) = rw (name_char-no_space c (letter-name_char c parts.0), letter_no_digit c parts.0, parts.0) refl in
    on Front (Word (c ∷ []) false) at c (cs ++ t) goes ∙ word_on c [] cs t (at + 1) parts.2 (omega (arith, fits))
    ∙ from (Word (c ∷ cs) false) t (at + 1 + length cs) (at + suc (length cs)) (omega arith)

-- spaces after a verb's space are read as in its parameters
printed_space : (c : ℕ) → c ≡ 32 → in_params 0 c ≡ Some (Params 0)
printed_space c is = subst (λ (d : ℕ). in_params 0 d ≡ Some (Params 0)) (sym is) refl

gap_same : (t : List ℕ) (at : ℕ) → wrong_from VerbGap at t ≡ wrong_from (Params 0) at t
gap_same [] at = refl
gap_same (c ∷ cs) at =
    cond_both (c == 32) zero zero (λ _. wrong_from VerbGap at (c ∷ cs) ≡ wrong_from (Params 0) at (c ∷ cs))
    (λ space. let goes : step c VerbGap ≡ Some VerbGap = rw space refl in
    on VerbGap VerbGap at c cs goes ∙ gap_same cs (at + 1) ∙ sym (on (Params 0) (Params 0) at c cs (printed_space c (eqb-true c 32 space))))
    (λ other. let goes : step c VerbGap ≡ in_params 0 c = rw other refl in
    ap (λ (o : Option State). elim o [ None ↦ Some at | Some t ↦ wrong_from t (at + 1) cs ]) goes)

params_on : (n at : ℕ) (t : List ℕ) → wrong_from (Params 0) at (spaces n ++ t) ≡ wrong_from (Params 0) (at + n) t
params_on zero at t = from (Params 0) t at (at + 0) (omega arith)
params_on (suc n) at t = params_on n (at + 1) t ∙ from (Params 0) t (at + 1 + n) (at + suc n) (omega arith)

-- how a text is split at its spaces
record CutsFront (t : List ℕ) : Type 0 where
  count : ℕ
  whole : t ≡ spaces count ++ without_front t

front_cut : (t : List ℕ) → CutsFront t
front_cut [] = record { count = 0; whole = refl }
front_cut (c ∷ cs) =
    let more = front_cut cs in
    cond_both (c == 32) zero zero (λ _. CutsFront (c ∷ cs))
    (λ space. record { count = suc more.count; whole = rw space (ap (λ (x : ℕ). x ∷ cs) (eqb-true c 32 space) ∙ ap (λ (xs : List ℕ). 32 ∷ xs) more.whole) })
    (λ other. record { count = 0; whole = rw other refl })

pub record CutsWord (t : List ℕ) : Type 0 where
  pub rest : List ℕ
  pub whole : t ≡ word_of t ++ rest
  pub behind : behind_word t ≡ without_front rest
  pub space : at_space rest ≡ true

pub word_cut : (t : List ℕ) → CutsWord t
word_cut [] = record { rest = []; whole = refl; behind = refl; space = refl }
word_cut (c ∷ cs) =
    let more = word_cut cs in
    cond_both (c == 32) zero zero (λ _. CutsWord (c ∷ cs))
    (λ space. record { rest = c ∷ cs; whole = rw space refl; behind = rw space refl; space = space })
    (λ other. record { rest = more.rest; whole = rw other (ap (λ (xs : List ℕ). c ∷ xs) more.whole); behind = rw other more.behind; space = more.space })

-- how long they are
spaces_long : (n : ℕ) → length (spaces n) ≡ n
spaces_long zero = refl
spaces_long (suc n) = ap suc (spaces_long n)

-- after the verb
behind_on : (name rest : List ℕ) (at : ℕ) → is_verb name ≡ true → at_space rest ≡ true
    → wrong_from (Word name false) at rest ≡ wrong_from (Params 0) (at + (length rest - length (without_front rest))) (without_front rest)
behind_on [] rest at is space = absurd (false≢true is)
behind_on (first ∷ word) [] at is space =
    let ends : may_end (Word (first ∷ word) false) ≡ true = verb_end first word false is (and_right (same_text (first ∷ word) (codes "INPUT")) false refl) in
    rw ends refl
behind_on (first ∷ word) (c ∷ cs) at is space =
    let same : c ≡ 32 = eqb-true c 32 space in
    let name = first ∷ word in
    let cut = front_cut (c ∷ cs) in
    let other : (same_text name (codes "INPUT") && false) ≡ false = and_right (same_text name (codes "INPUT")) false refl in
    let goes : step 32 (Word name false) ≡ Some VerbGap = verb_state name false is other in
    let gone : step c (Word name false) ≡ Some VerbGap = subst (λ (d : ℕ). step d (Word name false) ≡ Some VerbGap) (sym same) goes in
    let long = ap length cut.whole in
    let parts = length-append (spaces cut.count) (without_front (c ∷ cs)) in
    on (Word name false) VerbGap at c cs gone ∙ gap_same cs (at + 1)
    ∙ sym (on (Params 0) (Params 0) at c cs (printed_space c same))
    ∙ ap (wrong_from (Params 0) at) cut.whole ∙ params_on cut.count at (without_front (c ∷ cs))
    ∙ from (Params 0) (without_front (c ∷ cs)) (at + cut.count) (at + (length (c ∷ cs) - length (without_front (c ∷ cs)))) (omega (arith, long, parts, spaces_long cut.count))

-- the lengths of a line's parts: the spaces before its first word, the word, and the rest with its leading spaces
word_lengths : (text : List ℕ) → (let line = without_front text in let cut = word_cut line in
    (length text ≡ (front_cut text).count + length (word_of line) + length cut.rest) × (length cut.rest ≡ (front_cut cut.rest).count + length (without_front cut.rest)))
word_lengths text =
    let line = without_front text in
    let front = front_cut text in
    let cut = word_cut line in
    let behind = front_cut cut.rest in
    let a = ap length front.whole in
    let b = length-append (spaces front.count) line in
    let c = ap length cut.whole in
    let d = length-append (word_of line) cut.rest in
    let e = spaces_long front.count in
    let g = ap length behind.whole in
    let h = length-append (spaces behind.count) (without_front cut.rest) in
    let i = spaces_long behind.count in
    (omega (arith, a, b, c, d, e), omega (arith, g, h, i))

-- the place where the rest after the word begins
word_place : (text : List ℕ) → (let line = without_front text in let cut = word_cut line in
    0 + (front_cut text).count + length (word_of line) + (length cut.rest - length (without_front cut.rest)) ≡ length text - length (without_front cut.rest))
word_place text = let (whole, rest) = word_lengths text in omega (arith, whole, rest)

-- a line is read from its first word on, and the rest after the word from the place where it begins
first_word : (text : List ℕ) → (let line = without_front text in wrong_from Front 0 text ≡ wrong_from Front (0 + (front_cut text).count) (word_of line ++ (word_cut line).rest))
first_word text =
    let front = front_cut text in
    ap (wrong_from Front 0) front.whole ∙ front_on front.count 0 (without_front text) ∙ ap (wrong_from Front (0 + front.count)) (word_cut (without_front text)).whole

behind_first : (text : List ℕ) (s : State) → (let line = without_front text in let cut = word_cut line in let params = without_front cut.rest in
    wrong_from s (0 + (front_cut text).count + length (word_of line) + (length cut.rest - length params)) params ≡ wrong_from s (length text - length (behind_word line)) (behind_word line))
behind_first text s =
    let line = without_front text in
    let cut = word_cut line in
    let params = without_front cut.rest in
    from s params (0 + (front_cut text).count + length (word_of line) + (length cut.rest - length params)) (length text - length params) (word_place text)
    ∙ ap (λ (ps : List ℕ). wrong_from s (length text - length ps) ps) (sym cut.behind)

-- A LINE THAT BEGINS WITH A VERB
pub verb_line : (text : List ℕ) → is_verb (word_of (without_front text)) ≡ true
    → wrong_from Front 0 text ≡ wrong_from (Params 0) (length text - length (behind_word (without_front text))) (behind_word (without_front text))
verb_line text is =
    let name = word_of (without_front text) in
    let cut = word_cut (without_front text) in
    let n = 0 + (front_cut text).count in
    let word : is_word name ≡ true = (and_parts (is_word name) _ is).0 in
    first_word text ∙ whole_on name cut.rest n word ∙ behind_on name cut.rest (n + length name) is cut.space ∙ behind_first text (Params 0)

pub behind_short : (text : List ℕ) → length (behind_word (without_front text)) ≤ length text
behind_short text =
    let (whole, rest) = word_lengths text in
    let behind = ap length (word_cut (without_front text)).behind in
    omega (arith, whole, rest, behind)

-- the characters of a label
label_on : (xs t : List ℕ) (n at : ℕ) → list_all is_name_char xs ≡ true → n + length xs ≤ 12 → wrong_from (InLabel n) at (xs ++ t) ≡ wrong_from (InLabel (n + length xs)) (at + length xs) t
label_on [] t n at all fits =
    ap (λ (m : ℕ). wrong_from (InLabel m) at t) (let e : n ≡ n + 0 = omega arith in e) ∙ from (InLabel (n + 0)) t at (at + 0) (omega arith)
label_on (c ∷ xs) t n at all fits =
    let both = and_parts (is_name_char c) (list_all is_name_char xs) all in
    let room : nat_lt n 12 ≡ true = lt-ltb n 12 (omega (arith, fits)) in
    let goes : step c (InLabel n) ≡ Some (InLabel (n + 1)) = rw (both.0, room) refl in
    on (InLabel n) (InLabel (n + 1)) at c (xs ++ t) goes
    ∙ label_on xs t (n + 1) (at + 1) both.1 (omega (arith, fits))
    ∙ ap (λ (m : ℕ). wrong_from (InLabel m) (at + 1 + length xs) t) (let e : n + 1 + length xs ≡ n + suc (length xs) = omega arith in e)
    ∙ from (InLabel (n + suc (length xs))) t (at + 1 + length xs) (at + suc (length xs)) (omega arith)

whole_label : (label t : List ℕ) (at : ℕ) → is_label label ≡ true → wrong_from Front at (label ++ t) ≡ wrong_from (InLabel (length label)) (at + length label) t
whole_label [] t at is = absurd (false≢true is)
whole_label (c ∷ cs) t at is =
    let parts = label_parts c cs is in
    let fits = parts.1 in
    let goes : step c Front ≡ Some (InLabel 1) = rw (name_char-no_space c (digit-name_char c parts.0), parts.0) refl in
    on Front (InLabel 1) at c (cs ++ t) goes ∙ label_on cs t 1 (at + 1) parts.2 (omega (arith, fits))
    ∙ ap (λ (m : ℕ). wrong_from (InLabel m) (at + 1 + length cs) t) (let e : 1 + length cs ≡ suc (length cs) = omega arith in e)
    ∙ from (InLabel (suc (length cs))) t (at + 1 + length cs) (at + suc (length cs)) (omega arith)

-- the spaces after a label
gap_on : (n at : ℕ) (t : List ℕ) → wrong_from Gap at (spaces n ++ t) ≡ wrong_from Gap (at + n) t
gap_on zero at t = from Gap t at (at + 0) (omega arith)
gap_on (suc n) at t = gap_on n (at + 1) t ∙ from Gap t (at + 1 + n) (at + suc n) (omega arith)

behind_label : (n : ℕ) (rest : List ℕ) (at : ℕ) → at_space rest ≡ true
    → wrong_from (InLabel n) at rest ≡ wrong_from Gap (at + (length rest - length (without_front rest))) (without_front rest)
behind_label n [] at space = refl
behind_label n (c ∷ cs) at space =
    let same : c ≡ 32 = eqb-true c 32 space in
    let cut = front_cut (c ∷ cs) in
    let goes : step c (InLabel n) ≡ Some Gap = subst (λ (d : ℕ). step d (InLabel n) ≡ Some Gap) (sym same) refl in
    let gap : step c Gap ≡ Some Gap = subst (λ (d : ℕ). step d Gap ≡ Some Gap) (sym same) refl in
    let long = ap length cut.whole in
    let parts = length-append (spaces cut.count) (without_front (c ∷ cs)) in
    on (InLabel n) Gap at c cs goes ∙ sym (on Gap Gap at c cs gap)
    ∙ ap (wrong_from Gap at) cut.whole ∙ gap_on cut.count at (without_front (c ∷ cs))
    ∙ from Gap (without_front (c ∷ cs)) (at + cut.count) (at + (length (c ∷ cs) - length (without_front (c ∷ cs)))) (omega (arith, long, parts, spaces_long cut.count))

-- a line that begins with a label goes wrong where the command after it does
label_line : (text : List ℕ) → is_label (word_of (without_front text)) ≡ true
    → wrong_from Front 0 text ≡ wrong_from Gap (length text - length (behind_word (without_front text))) (behind_word (without_front text))
label_line text is =
    let label = word_of (without_front text) in
    let cut = word_cut (without_front text) in
    let n = 0 + (front_cut text).count in
    first_word text ∙ whole_label label cut.rest n is ∙ behind_label (length label) cut.rest (n + length label) cut.space ∙ behind_first text Gap

-- a verb after a label
whole_gap : (name t : List ℕ) (at : ℕ) → is_word name ≡ true → wrong_from Gap at (name ++ t) ≡ wrong_from (Word name false) (at + length name) t
whole_gap [] t at is = absurd (false≢true is)
whole_gap (c ∷ cs) t at is =
    let parts = word_parts c cs is in
    let fits = parts.1 in
    let goes : step c Gap ≡ Some (Word (c ∷ []) false) = rw (name_char-no_space c (letter-name_char c parts.0), parts.0) refl in
    on Gap (Word (c ∷ []) false) at c (cs ++ t) goes ∙ word_on c [] cs t (at + 1) parts.2 (omega (arith, fits))
    ∙ from (Word (c ∷ cs) false) t (at + 1 + length cs) (at + suc (length cs)) (omega arith)

word_short : (text : List ℕ) → length (behind_word text) ≤ length text
word_short text =
    let cut = word_cut text in
    let f = front_cut cut.rest in
    let a = ap length cut.whole in
    let b = length-append (word_of text) cut.rest in
    let c = ap length f.whole in
    let d = length-append (spaces f.count) (without_front cut.rest) in
    let e = ap length cut.behind in
    omega (arith, a, b, c, d, e)

verb_gap : (command : List ℕ) (at : ℕ) → is_verb (word_of command) ≡ true
    → wrong_from Gap at command ≡ wrong_from (Params 0) (at + (length command - length (behind_word command))) (behind_word command)
verb_gap command at is =
    let name = word_of command in
    let cut = word_cut command in
    let params = without_front cut.rest in
    let word : is_word name ≡ true = (and_parts (is_word name) _ is).0 in
    let f = front_cut cut.rest in
    let a = ap length cut.whole in
    let b = length-append name cut.rest in
    let c = ap length f.whole in
    let d = length-append (spaces f.count) params in
    ap (wrong_from Gap at) cut.whole ∙ whole_gap name cut.rest at word ∙ behind_on name cut.rest (at + length name) is cut.space
    ∙ from (Params 0) params (at + length name + (length cut.rest - length params)) (at + (length command - length params)) (omega (arith, a, b, c, d))
    ∙ ap (λ (ps : List ℕ). wrong_from (Params 0) (at + (length command - length ps)) ps) (sym cut.behind)

-- A LINE THAT BEGINS WITH A LABEL AND A VERB
pub labelled_verb : (text : List ℕ) → is_label (word_of (without_front text)) ≡ true → is_verb (word_of (behind_word (without_front text))) ≡ true
    → wrong_from Front 0 text ≡ wrong_from (Params 0) (length text - length (behind_word (behind_word (without_front text)))) (behind_word (behind_word (without_front text)))
labelled_verb text label verb =
    let command = behind_word (without_front text) in
    let params = behind_word command in
    let a = behind_short text in
    let b = word_short command in
    label_line text label ∙ verb_gap command (length text - length command) verb
    ∙ from (Params 0) params (length text - length command + (length command - length params)) (length text - length params) (omega (arith, a, b))

pub params_short : (text : List ℕ) → length (behind_word (behind_word (without_front text))) ≤ length text
params_short text =
    let a = behind_short text in
    let b = word_short (behind_word (without_front text)) in
    omega (arith, a, b)

-- GOTO with its label
goto_label : (label : List ℕ) (at : ℕ) → is_label label ≡ true → wrong_from ALabel at label ≡ None
goto_label label at is = taken_none ALabel at label (ap (takes ALabel) (sym (append-nil label)) ∙ label_goto label 0 is)

goto_front : (command label : List ℕ) (at : ℕ) → behind (codes "GOTO ") command ≡ Some label → is_label label ≡ true → wrong_from Front at command ≡ None
goto_front command label at goes is = ap (wrong_from Front at) (behind-is (codes "GOTO ") command label goes) ∙ goto_label label (at + 1 + 1 + 1 + 1 + 1) is

goto_gap : (command label : List ℕ) (at : ℕ) → behind (codes "GOTO ") command ≡ Some label → is_label label ≡ true → wrong_from Gap at command ≡ None
goto_gap command label at goes is = ap (wrong_from Gap at) (behind-is (codes "GOTO ") command label goes) ∙ goto_label label (at + 1 + 1 + 1 + 1 + 1) is

-- A LINE that is a GOTO with its label
pub goto_line : (text label : List ℕ) → behind (codes "GOTO ") (without_front text) ≡ Some label → is_label label ≡ true → wrong_from Front 0 text ≡ None
goto_line text label goes is =
    let front = front_cut text in
    ap (wrong_from Front 0) front.whole ∙ front_on front.count 0 (without_front text) ∙ goto_front (without_front text) label (0 + front.count) goes is

pub labelled_goto : (text label : List ℕ) → is_label (word_of (without_front text)) ≡ true → behind (codes "GOTO ") (behind_word (without_front text)) ≡ Some label → is_label label ≡ true
    → wrong_from Front 0 text ≡ None
labelled_goto text label named goes is =
    let command = behind_word (without_front text) in
    label_line text named ∙ goto_gap command label (length text - length command) goes is
