-- The reader accepts the text of each written line.
-- serves: PartLemmas, ReadingLemmas, RestLemmas, VerbLemmas
use Rattle.std.proofs.Common.{Bool, IfSome, List, None, Option, Some, [], ap, append-nil, append_assoc, arith, codes, cond, eqb-true, false, is_some, leb-true, length, length-append, lt-ltb, nat_le, nat_lt, not, pred, refl, suc, sym, true, unwrap_or, zero, ℕ, ◌&&◌, ◌++◌, ◌+◌, ◌==◌, ◌∙◌, ◌∷◌, ◌≡◌, ◌≤◌}
use Rattle.std.proofs.lemmas.Bool.{and_left, and_parts, and_right, cond_both, false≢true, not-true, not_from_false, or_from}
use Rattle.std.proofs.lemmas.List.Elements.{recursion_from_All}
use Rattle.std.specs.List.{list_all}
use Rattle.std.specs.Prelude.{if◌then◌else◌}
use Rattle.g_lang.proofs.PlaceLemmas.{takes}
use Rattle.g_lang.proofs.ReadLemmas.{LetterFirst, all-parts, command-letter, letter-append, letter_no_digit, verb-other, verb-word}
use Rattle.g_lang.proofs.SpaceLemmas.{StartsWell, digit-name_char, letter-name_char, name_char-no_space, spaces-two, starts-append, trimmed-starts}
use Rattle.g_lang.proofs.ValueLemmas.{are_parts, part_byte}
use Rattle.g_lang.specs.Conditions.{IsTest, cond_text, is_param_letter, is_plain_text, test_text}
use Rattle.g_lang.specs.LineReader.{AComma, ALabel, ATestFrom, AText, Back, BeforeComma, Front, Gap, InGoto, InLabel, InText, Letter, Params, State, VerbGap, Word, depth_behind, fixed, in_params, in_word, may_end, state_behind_word, step}
use Rattle.g_lang.specs.Lines.{AreParts, IsLine, IsWritten, Written, WrittenGoto, WrittenIf, WrittenLine, WrittenVerb, WrittenWhenever, command_text, is_input, is_verb, line_text, option_text, params_text}
use Rattle.g_lang.specs.Words.{is_label, is_part, is_printed, joined, spaces}
use Rattle.g_lang.specs.declared.line.Test.{Test}
use Rattle.g_lang.specs.declared.line.Test.TheVariants.{Absent, CommandError, Deleted, Equals, Failed, Halted, Present}
use Rattle.g_name.specs.Grammar.{is_digit, is_letter, is_name_char, is_word}
use Rattle.g_name.specs.Order.{same_text}

-- bytes after which the reader continues
pub goes-on : (c : ℕ) (s t : State) (cs : List ℕ) → step c s ≡ Some t → takes s (c ∷ cs) ≡ takes t cs
goes-on c s t cs goes = ap (λ (o : Option State). elim o [ None ↦ false | Some t ↦ takes t cs ]) goes

front_spaces : (n : ℕ) (t : List ℕ) → takes Front (spaces n ++ t) ≡ takes Front t
front_spaces zero t = refl
front_spaces (suc n) t = front_spaces n t

gap_spaces : (n : ℕ) (t : List ℕ) → takes Gap (spaces n ++ t) ≡ takes Gap t
gap_spaces zero t = refl
gap_spaces (suc n) t = gap_spaces n t

verb_spaces : (n : ℕ) (t : List ℕ) → takes VerbGap (spaces n ++ t) ≡ takes VerbGap t
verb_spaces zero t = refl
verb_spaces (suc n) t = verb_spaces n t

take_back_spaces : (n : ℕ) → takes Back (spaces n) ≡ true
take_back_spaces zero = refl
take_back_spaces (suc n) = take_back_spaces n

pub params_spaces : (d n : ℕ) → takes (Params d) (spaces n) ≡ (d == 0)
params_spaces d zero = refl
params_spaces d (suc n) = params_spaces d n

-- the characters of a label
label_taken : (n : ℕ) (xs t : List ℕ) → list_all is_name_char xs ≡ true → n + length xs ≤ 12 → takes (InLabel n) (xs ++ t) ≡ takes (InLabel (n + length xs)) t
label_taken n [] t all fits = let e : n + 0 ≡ n = omega arith in rw e refl
label_taken n (c ∷ xs) t all fits =
    let both = and_parts (is_name_char c) (list_all is_name_char xs) all in
    let room : nat_lt n 12 ≡ true = lt-ltb n 12 (omega (arith, fits)) in
    let goes : step c (InLabel n) ≡ Some (InLabel (n + 1)) = rw (both.0, room) refl in
    let e : n + 1 + length xs ≡ n + suc (length xs) = omega arith in
    goes-on c (InLabel n) (InLabel (n + 1)) (xs ++ t) goes ∙ label_taken (n + 1) xs t both.1 (omega (arith, fits)) ∙ ap (λ (m : ℕ). takes (InLabel m) t) e

goto_taken : (n : ℕ) (xs : List ℕ) (back : ℕ) → list_all is_name_char xs ≡ true → n + length xs ≤ 12 → takes (InGoto n) (xs ++ spaces back) ≡ true
goto_taken n [] zero all fits = refl
goto_taken n [] (suc back) all fits = take_back_spaces back
goto_taken n (c ∷ xs) back all fits =
    let both = and_parts (is_name_char c) (list_all is_name_char xs) all in
    let room : nat_lt n 12 ≡ true = lt-ltb n 12 (omega (arith, fits)) in
    let goes : step c (InGoto n) ≡ Some (InGoto (n + 1)) = rw (both.0, room) refl in
    goes-on c (InGoto n) (InGoto (n + 1)) (xs ++ spaces back) goes ∙ goto_taken (n + 1) xs back both.1 (omega (arith, fits))

pub label_parts : (c : ℕ) (cs : List ℕ) → is_label (c ∷ cs) ≡ true → (is_digit c ≡ true) × (length cs ≤ 11) × (list_all is_name_char cs ≡ true)
label_parts c cs is =
    let parts = and_parts (is_digit c && nat_le (length cs) 11) (list_all is_name_char cs) is in
    let first = and_parts (is_digit c) (nat_le (length cs) 11) parts.0 in
    (first.0, leb-true (length cs) 11 first.1, parts.1)

pub word_parts : (c : ℕ) (cs : List ℕ) → is_word (c ∷ cs) ≡ true → (is_letter c ≡ true) × (length cs ≤ 11) × (list_all is_name_char cs ≡ true)
word_parts c cs is =
    let parts = and_parts (is_letter c && nat_le (length cs) 11) (list_all is_name_char cs) is in
    let first = and_parts (is_letter c) (nat_le (length cs) 11) parts.0 in
    (first.0, leb-true (length cs) 11 first.1, parts.1)

-- a label at the beginning of a line
begins_label : (c : ℕ) (cs t : List ℕ) → is_label (c ∷ cs) ≡ true → takes Front ((c ∷ cs) ++ t) ≡ takes (InLabel (1 + length cs)) t
begins_label c cs t is =
    let parts = label_parts c cs is in
    let other : (c == 32) ≡ false = name_char-no_space c (digit-name_char c parts.0) in
    let goes : step c Front ≡ Some (InLabel 1) = rw (other, parts.0) refl in
    goes-on c Front (InLabel 1) (cs ++ t) goes ∙ label_taken 1 cs t parts.2 (let h = parts.1 in omega (arith, h))

pub label_goto : (label : List ℕ) (back : ℕ) → is_label label ≡ true → takes ALabel (label ++ spaces back) ≡ true
label_goto [] back is = absurd (false≢true is)
label_goto (c ∷ cs) back is =
    let parts = label_parts c cs is in
    let goes : step c ALabel ≡ Some (InGoto 1) = rw parts.0 refl in
    goes-on c ALabel (InGoto 1) (cs ++ spaces back) goes ∙ goto_taken 1 cs back parts.2 (let h = parts.1 in omega (arith, h))

-- the characters of a word
word_taken : (first : ℕ) (word : List ℕ) (inner : Bool) (xs t : List ℕ) → list_all is_name_char xs ≡ true → length word + length xs ≤ 11
    → takes (Word (first ∷ word) inner) (xs ++ t) ≡ takes (Word ((first ∷ word) ++ xs) inner) t
word_taken first word inner [] t all fits = ap (λ (w : List ℕ). takes (Word w inner) t) (sym (append-nil (first ∷ word)))
word_taken first word inner (c ∷ xs) t all fits =
    let both = and_parts (is_name_char c) (list_all is_name_char xs) all in
    let room : nat_lt (length word) 11 ≡ true = lt-ltb (length word) 11 (omega (arith, fits)) in
    let goes : step c (Word (first ∷ word) inner) ≡ Some (Word ((first ∷ word) ++ c ∷ []) inner) = rw (both.0, room) refl in
    let more : length (word ++ c ∷ []) + length xs ≤ 11 = omega (arith, fits, length-append word (c ∷ [])) in
    goes-on c (Word (first ∷ word) inner) (Word ((first ∷ word) ++ c ∷ []) inner) (xs ++ t) goes
    ∙ word_taken first (word ++ c ∷ []) inner xs t both.1 more
    ∙ ap (λ (w : List ℕ). takes (Word w inner) t) (append_assoc (first ∷ word) (c ∷ []) xs)

whole_word : (name : List ℕ) (inner : Bool) (t : List ℕ) → is_word name ≡ true → takes (Word [] inner) (name ++ t) ≡ takes (Word name inner) t
whole_word [] inner t is = refl
whole_word (c ∷ cs) inner t is =
    let parts = word_parts c cs is in
    let goes : step c (Word [] inner) ≡ Some (Word (c ∷ []) inner) = rw parts.0 refl in
    goes-on c (Word [] inner) (Word (c ∷ []) inner) (cs ++ t) goes ∙ word_taken c [] inner cs t parts.2 (let h = parts.1 in omega (arith, h))

-- a condition
text_taken : (text t : List ℕ) → is_plain_text text ≡ true → takes InText (text ++ 41 ∷ t) ≡ takes BeforeComma t
text_taken [] t plain = refl
text_taken (c ∷ text) t plain =
    let both = and_parts (is_printed c && not (c == 40) && not (c == 41)) (is_plain_text text) plain in
    let more = and_parts (is_printed c && not (c == 40)) (not (c == 41)) both.0 in
    let goes : step c InText ≡ Some InText = rw (not-true _ more.1, more.0) refl in
    goes-on c InText InText (text ++ 41 ∷ t) goes ∙ text_taken text t both.1

letter_taken : (letter : ℕ) (t : List ℕ) → is_param_letter letter ≡ true → takes (Letter false) (letter ∷ 41 ∷ t) ≡ takes BeforeComma t
letter_taken letter t is =
    let goes : step letter (Letter false) ≡ Some (fixed (codes ")") AComma) = rw is refl in
    goes-on letter (Letter false) (fixed (codes ")") AComma) (41 ∷ t) goes

equals_taken : (letter : ℕ) (text t : List ℕ) → is_param_letter letter ≡ true → is_plain_text text ≡ true
    → takes (Letter true) (letter ∷ (codes ")=(" ++ (text ++ 41 ∷ t))) ≡ takes BeforeComma t
equals_taken letter text t is plain =
    let goes : step letter (Letter true) ≡ Some (fixed (codes ")=(") AText) = rw is refl in
    goes-on letter (Letter true) (fixed (codes ")=(") AText) (codes ")=(" ++ (text ++ 41 ∷ t)) goes ∙ text_taken text t plain

-- the text of a test and what follows it, with the brackets associated to the left
test_taken : (negated : Bool) (test : Test) (t : List ℕ) → IsTest test → takes (ATestFrom negated) (test_text test ++ t) ≡ takes BeforeComma t
test_taken negated CommandError t is = refl
test_taken negated Failed t is = refl
test_taken negated (Halted text) t is = rw (append_assoc text (41 ∷ []) t) (text_taken text t is)
test_taken negated (Deleted text) t is = rw (append_assoc text (41 ∷ []) t) (text_taken text t is)
test_taken negated (Present letter) t is = letter_taken letter t is
test_taken negated (Absent letter) t is = letter_taken letter t is
test_taken negated (Equals letter text) t is = rw (append_assoc text (41 ∷ []) t) (equals_taken letter text t is.0 is.1)

cond_taken : (negated : Bool) (test : Test) (t : List ℕ) → IsTest test
    → takes (ATestFrom false) (((if negated then codes "NOT " else []) ++ test_text test) ++ 44 ∷ t) ≡ takes (Word [] true) t
cond_taken true test t is = test_taken true test (44 ∷ t) is
cond_taken false test t is = test_taken false test (44 ∷ t) is

-- parameters
part_goes : (d c : ℕ) (cs : List ℕ) → is_part d (c ∷ cs) ≡ true → in_params d c ≡ Some (Params (depth_behind c d))
part_goes d c cs =
    cond_both (c == 40) (is_part (d + 1) cs) (if c == 41 then not (d == 0) && is_part (pred d) cs else is_printed c && not (c == 44 && d == 0) && is_part d cs)
    (λ (b : Bool). b ≡ true → in_params d c ≡ Some (Params (depth_behind c d)))
    (λ open_bracket is. rw open_bracket refl)
    (λ no_open.
    cond_both (c == 41) (not (d == 0) && is_part (pred d) cs) (is_printed c && not (c == 44 && d == 0) && is_part d cs)
    (λ (b : Bool). b ≡ true → in_params d c ≡ Some (Params (depth_behind c d)))
    (λ close_bracket is. rw (no_open, close_bracket, not-true _ (and_parts (not (d == 0)) (is_part (pred d) cs) is).0) refl)
    (λ no_close is.
    let parts = and_parts (is_printed c && not (c == 44 && d == 0)) (is_part d cs) is in
    rw (no_open, no_close, (and_parts (is_printed c) (not (c == 44 && d == 0)) parts.0).0) refl))

part_taken : (d : ℕ) (xs t : List ℕ) → is_part d xs ≡ true → takes (Params d) (xs ++ t) ≡ takes (Params 0) t
part_taken d [] t is = ap (λ (n : ℕ). takes (Params n) t) (eqb-true d 0 is)
part_taken d (c ∷ xs) t is =
    let b = part_byte d c xs is in
    goes-on c (Params d) (Params (depth_behind c d)) (xs ++ t) (part_goes d c xs is) ∙ part_taken (depth_behind c d) xs t b.1

comma_taken : (t : List ℕ) → takes (Params 0) (44 ∷ t) ≡ takes (Params 0) t
comma_taken t = refl

joined_taken : (part : List ℕ) (parts : List (List ℕ)) (t : List ℕ) → are_parts (part ∷ parts) ≡ true → takes (Params 0) (joined (part ∷ parts) ++ t) ≡ takes (Params 0) t
joined_taken part [] t are = part_taken 0 part t (and_parts (is_part 0 part) true are).0
joined_taken part (more ∷ parts) t are =
    let both = and_parts (is_part 0 part) (are_parts (more ∷ parts)) are in
    rw (append_assoc part (44 ∷ joined (more ∷ parts)) t) (part_taken 0 part (44 ∷ (joined (more ∷ parts) ++ t)) both.0)
    ∙ comma_taken (joined (more ∷ parts) ++ t) ∙ joined_taken more parts t both.1

params_begin : (t : List ℕ) → StartsWell t → takes VerbGap t ≡ takes (Params 0) t
params_begin [] starts = absurd starts
params_begin (c ∷ cs) starts =
    let goes : step c VerbGap ≡ in_params 0 c = rw starts refl in
    ap (λ (o : Option State). elim o [ None ↦ false | Some t ↦ takes t cs ]) goes

-- a verb that isn't INPUT if it follows a condition
pub verb_state : (name : List ℕ) (inner : Bool) → is_verb name ≡ true → (same_text name (codes "INPUT") && inner) ≡ false → state_behind_word name inner ≡ Some VerbGap
verb_state name inner is other =
    let o = verb-other name is in
    rw (o.0, o.1, o.2, other) refl

pub verb_end : (first : ℕ) (word : List ℕ) (inner : Bool) → is_verb (first ∷ word) ≡ true → (same_text (first ∷ word) (codes "INPUT") && inner) ≡ false
    → may_end (Word (first ∷ word) inner) ≡ true
verb_end first word inner is other =
    let o = verb-other (first ∷ word) is in
    not_from_false _ (or_from _ _ (or_from _ _ (or_from _ _ o.0 o.1) o.2) other)

verb_gap_end : (n : ℕ) → takes VerbGap (spaces n) ≡ true
verb_gap_end zero = refl
verb_gap_end (suc n) = verb_gap_end n

behind_verb : (first : ℕ) (word : List ℕ) (inner : Bool) (t : List ℕ) → is_verb (first ∷ word) ≡ true → (same_text (first ∷ word) (codes "INPUT") && inner) ≡ false
    → takes (Word (first ∷ word) inner) (32 ∷ t) ≡ takes VerbGap t
behind_verb first word inner t is other = goes-on 32 (Word (first ∷ word) inner) VerbGap t (verb_state (first ∷ word) inner is other)

verb_rest : (first : ℕ) (word : List ℕ) (inner : Bool) (gap : ℕ) (parts : List (List ℕ)) (back : ℕ) → is_verb (first ∷ word) ≡ true → AreParts gap parts
    → (same_text (first ∷ word) (codes "INPUT") && inner) ≡ false → takes (Word (first ∷ word) inner) (params_text gap parts ++ spaces back) ≡ true
verb_rest first word inner gap [] zero is are other = verb_end first word inner is other
verb_rest first word inner gap [] (suc back) is are other = behind_verb first word inner (spaces back) is other ∙ verb_gap_end back
verb_rest first word inner zero (part ∷ parts) back is are other = absurd (let h = are.0 in omega (arith, h))
verb_rest first word inner (suc gap) (part ∷ parts) back is are other =
    behind_verb first word inner ((spaces gap ++ joined (part ∷ parts)) ++ spaces back) is other
    ∙ ap (takes VerbGap) (append_assoc (spaces gap) (joined (part ∷ parts)) (spaces back))
    ∙ verb_spaces gap (joined (part ∷ parts) ++ spaces back)
    ∙ params_begin (joined (part ∷ parts) ++ spaces back) (starts-append (joined (part ∷ parts)) (spaces back) (trimmed-starts (joined (part ∷ parts)) are.2))
    ∙ joined_taken part parts (spaces back) (all-parts (part ∷ parts) (recursion_from_All _ (part ∷ parts) are.1)) ∙ params_spaces 0 back

verb_taken : (name : List ℕ) (inner : Bool) (gap : ℕ) (parts : List (List ℕ)) (back : ℕ) → is_verb name ≡ true → AreParts gap parts
    → (same_text name (codes "INPUT") && inner) ≡ false → takes (Word [] inner) ((name ++ params_text gap parts) ++ spaces back) ≡ true
verb_taken [] inner gap parts back is are other = absurd (false≢true is)
verb_taken (first ∷ word) inner gap parts back is are other =
    ap (takes (Word [] inner)) (append_assoc (first ∷ word) (params_text gap parts) (spaces back))
    ∙ whole_word (first ∷ word) inner (params_text gap parts ++ spaces back) (verb-word (first ∷ word) is)
    ∙ verb_rest first word inner gap parts back is are other

-- a command and its trailing spaces
pub command_taken : (w : Written) (inner : Bool) (back : ℕ) → IsWritten w → (is_input w && inner) ≡ false → takes (Word [] inner) (command_text w ++ spaces back) ≡ true
command_taken (WrittenGoto label) inner back is other = label_goto label back is
command_taken (WrittenIf cond w) inner back is other =
    ap (takes (ATestFrom false)) (append_assoc (cond_text cond) (44 ∷ command_text w) (spaces back))
    ∙ cond_taken cond.negated cond.test (command_text w ++ spaces back) is.0 ∙ command_taken w true back is.1 (and_left _ true is.2)
command_taken (WrittenWhenever cond w) inner back is other =
    ap (takes (ATestFrom false)) (append_assoc (cond_text cond) (44 ∷ command_text w) (spaces back))
    ∙ cond_taken cond.negated cond.test (command_text w ++ spaces back) is.0 ∙ command_taken w true back is.1 (and_left _ true is.2)
command_taken (WrittenVerb name gap parts) inner back is other = verb_taken name inner gap parts back is.0 is.1 other

letter_front : (t : List ℕ) → LetterFirst t → takes Front t ≡ takes (Word [] false) t
letter_front [] letter = absurd letter
letter_front (c ∷ cs) letter =
    let goes : step c Front ≡ in_word [] false c = rw (name_char-no_space c (letter-name_char c letter), letter_no_digit c letter) refl in
    ap (λ (o : Option State). elim o [ None ↦ false | Some t ↦ takes t cs ]) goes

letter_gap : (t : List ℕ) → LetterFirst t → takes Gap t ≡ takes (Word [] false) t
letter_gap [] letter = absurd letter
letter_gap (c ∷ cs) letter =
    let goes : step c Gap ≡ in_word [] false c = rw (name_char-no_space c (letter-name_char c letter)) refl in
    ap (λ (o : Option State). elim o [ None ↦ false | Some t ↦ takes t cs ]) goes

front_end : (n : ℕ) → takes Front (spaces n) ≡ true
front_end zero = refl
front_end (suc n) = front_end n

gap_end : (n : ℕ) → takes Gap (spaces n) ≡ true
gap_end zero = refl
gap_end (suc n) = gap_end n

label_end : (k n : ℕ) → takes (InLabel k) (spaces n) ≡ true
label_end k zero = refl
label_end k (suc n) = gap_end n

label_line : (front : ℕ) (label t : List ℕ) → is_label label ≡ true → ((n : ℕ) → takes (InLabel n) t ≡ true) → takes Front (spaces front ++ (label ++ t)) ≡ true
label_line front [] t is rest = absurd (false≢true is)
label_line front (c ∷ cs) t is rest = front_spaces front ((c ∷ cs) ++ t) ∙ begins_label c cs t is ∙ rest (1 + length cs)

line_taken_by : (front : ℕ) (label : Option (List ℕ)) (gap : ℕ) (command : Option Written) (back : ℕ) → IfSome label (λ label. is_label label ≡ true) → IfSome command IsWritten
    → ((is_some label && is_some command) ≡ true → 1 ≤ gap)
    → takes Front (spaces front ++ (unwrap_or label [] ++ (spaces gap ++ (option_text command ++ spaces back)))) ≡ true
line_taken_by front None gap None back label_is command_is apart =
    front_spaces front (spaces gap ++ spaces back) ∙ front_spaces gap (spaces back) ∙ front_end back
line_taken_by front None gap (Some w) back label_is command_is apart =
    let letter : LetterFirst (command_text w ++ spaces back) = letter-append (command_text w) (spaces back) (command-letter w command_is) in
    front_spaces front (spaces gap ++ (command_text w ++ spaces back)) ∙ front_spaces gap (command_text w ++ spaces back)
    ∙ letter_front (command_text w ++ spaces back) letter ∙ command_taken w false back command_is (and_right (is_input w) false refl)
line_taken_by front (Some label) gap None back label_is command_is apart =
    label_line front label (spaces gap ++ spaces back) label_is
    (λ n. ap (takes (InLabel n)) (spaces-two gap back) ∙ label_end n (gap + back))
line_taken_by front (Some label) zero (Some w) back label_is command_is apart = absurd (let h = apart refl in omega (arith, h))
line_taken_by front (Some label) (suc gap) (Some w) back label_is command_is apart =
    let letter : LetterFirst (command_text w ++ spaces back) = letter-append (command_text w) (spaces back) (command-letter w command_is) in
    label_line front label (spaces (suc gap) ++ (command_text w ++ spaces back)) label_is
    (λ n. gap_spaces gap (command_text w ++ spaces back)
    ∙ letter_gap (command_text w ++ spaces back) letter ∙ command_taken w false back command_is (and_right (is_input w) false refl))

-- THE READER ACCEPTS the text of each line
pub line-taken : (l : WrittenLine) → IsLine l → takes Front (line_text l) ≡ true
line-taken l is = line_taken_by l.front l.label l.gap l.command l.back is.label is.command is.apart
