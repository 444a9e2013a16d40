-- A text and its lines, each with its byte 10.
-- serves: lacks_end (lacks, whole), pass, push (ok), take_line, CursorLemmas, crates above
use Rattle.std.proofs.Common.{◌≡◌, ◌≢◌, ◌==◌, Bool, true, false, eqb, eqb-true, eq-eqb, ◌<◌, ◌≤◌, ◌+◌, ◌-◌, ℕ, List, [], ◌∷◌, ◌++◌, ◌⊎◌, inl, inr, length, get_or, take, not, suc, zero, All, if◌then◌else◌, sym, ap, subst, ◌∙◌, refl, arith}
use Rattle.std.proofs.Common.{Err, Ok, Result}
use Rattle.std.specs.List.{AllByRecursion}
use Rattle.std.specs.Prelude.{OnErr, OnOk}
use Rattle.std.proofs.lemmas.Bool.{cond_both, eqb-false, false≢true}
use Rattle.std.proofs.lemmas.List.{append-nil, length-append, take_at, take-append-le}
use Rattle.std.proofs.lemmas.List.Concat.{flat_map-append}
use Rattle.std.proofs.lemmas.List.Elements.{All-cons, All-nil, All-from_recursion}
use Rattle.g_lines.proofs.LineLemmas.{lines-last, lines_of_some, onto_text, text-lines}
use Rattle.g_lines.specs.Documents.{IsOneLine, IsWhole}
use Rattle.g_lines.specs.Lines.{ended, lines_of, onto_first, text_of}

-- no byte 10 in any line
abbrev pub AreOneLines : List (List ℕ) → Type 0
AreOneLines lines = AllByRecursion (λ line. All (λ b. b ≢ 10) line) lines

one_onto : (b : ℕ) (lines : List (List ℕ)) → b ≢ 10 → AreOneLines lines → AreOneLines (onto_first b lines)
one_onto b [] other are = (All-cons (λ (c : ℕ). c ≢ 10) b [] other (All-nil (λ (c : ℕ). c ≢ 10)), tt)
one_onto b (line ∷ lines) other are = (All-cons (λ (c : ℕ). c ≢ 10) b line other are.0, are.1)

pub lines_one : (text : List ℕ) → AreOneLines (lines_of text)
lines_one [] = tt
lines_one (b ∷ text) =
    cond_both (b == 10) ([] ∷ lines_of text) (onto_first b (lines_of text)) AreOneLines
    (λ is. (All-nil (λ (c : ℕ). c ≢ 10), lines_one text))
    (λ other. one_onto b (lines_of text) (λ e. false≢true (sym other ∙ eq-eqb b 10 e)) (lines_one text))

one_front : (lines more : List (List ℕ)) → AreOneLines (lines ++ more) → AreOneLines lines
one_front [] more are = tt
one_front (line ∷ lines) more are = (are.0, one_front lines more are.1)

one_left : (lines : List (List ℕ)) (more : List (List ℕ)) → AreOneLines (lines ++ more) → AreOneLines more
one_left [] more are = are
one_left (line ∷ lines) more are = one_left lines more are.1

-- leading lines of a text are the lines of their own text
pub front_back : (text : List ℕ) (lines more : List (List ℕ)) → lines_of text ≡ lines ++ more → lines_of (text_of lines) ≡ lines
front_back text lines more e =
    text-lines lines (All-from_recursion (λ (line : List ℕ). All (λ b. b ≢ 10) line) lines (one_front lines more (subst AreOneLines e (lines_one text))))

pub rest_back : (text : List ℕ) (lines more : List (List ℕ)) → lines_of text ≡ lines ++ more → lines_of (text_of more) ≡ more
rest_back text lines more e =
    text-lines more (All-from_recursion (λ (line : List ℕ). All (λ b. b ≢ 10) line) more (one_left lines more (subst AreOneLines e (lines_one text))))

-- THE TEXT OF A TEXT'S LINES: the text itself, or the text with the missing last byte 10
back_ended : (b : ℕ) (text : List ℕ) (lines : List (List ℕ)) → b ≡ 10 → (text_of lines ≡ text) ⊎ (text_of lines ≡ ended text)
    → (text_of ([] ∷ lines) ≡ b ∷ text) ⊎ (text_of ([] ∷ lines) ≡ ended (b ∷ text))
back_ended b text lines is (inl e) = inl (ap (λ (bs : List ℕ). 10 ∷ bs) e ∙ ap (λ (c : ℕ). c ∷ text) (sym is))
back_ended b text lines is (inr e) = inr (ap (λ (bs : List ℕ). 10 ∷ bs) e ∙ ap (λ (c : ℕ). c ∷ ended text) (sym is))

back_onto : (b : ℕ) (text : List ℕ) → (text_of (lines_of text) ≡ text) ⊎ (text_of (lines_of text) ≡ ended text)
    → (text_of (onto_first b (lines_of text)) ≡ b ∷ text) ⊎ (text_of (onto_first b (lines_of text)) ≡ ended (b ∷ text))
back_onto b [] back = inr refl
back_onto b (c ∷ text) (inl e) = inl (onto_text b (lines_of (c ∷ text)) (lines_of_some c text) ∙ ap (λ (bs : List ℕ). b ∷ bs) e)
back_onto b (c ∷ text) (inr e) = inr (onto_text b (lines_of (c ∷ text)) (lines_of_some c text) ∙ ap (λ (bs : List ℕ). b ∷ bs) e)

pub text_back : (text : List ℕ) → (text_of (lines_of text) ≡ text) ⊎ (text_of (lines_of text) ≡ ended text)
text_back [] = inl refl
text_back (b ∷ text) =
    cond_both (b == 10) ([] ∷ lines_of text) (onto_first b (lines_of text)) (λ (ls : List (List ℕ)). (text_of ls ≡ b ∷ text) ⊎ (text_of ls ≡ ended (b ∷ text)))
    (λ is. back_ended b text (lines_of text) (eqb-true b 10 is) (text_back text))
    (λ other. back_onto b text (text_back text))

pub back_long : (text : List ℕ) → length (text_of (lines_of text)) ≤ length text + 1
back_long text = long text (text_of (lines_of text)) (text_back text)
  where
    long : (text back : List ℕ) → (back ≡ text) ⊎ (back ≡ ended text) → length back ≤ length text + 1
    long text back (inl e) = omega (arith, ap length e)
    long text back (inr e) = omega (arith, ap length e, length-append text (10 ∷ []))

-- there are no more lines than bytes
onto_few : (b : ℕ) (lines : List (List ℕ)) → length (onto_first b lines) ≤ 1 + length lines
onto_few b [] = omega arith
onto_few b (line ∷ lines) = omega arith

pub lines_few : (text : List ℕ) → length (lines_of text) ≤ length text
lines_few [] = omega arith
lines_few (b ∷ text) =
    let fewer = lines_few text in
    cond_both (b == 10) ([] ∷ lines_of text) (onto_first b (lines_of text)) (λ (ls : List (List ℕ)). length ls ≤ length (b ∷ text)) (λ is. omega (arith, fewer))
    (λ other. omega (arith, fewer, onto_few b (lines_of text)))

-- whether the last byte is a 10
last_step : (b c : ℕ) (text : List ℕ) → get_or (b ∷ c ∷ text) (length (b ∷ c ∷ text) - 1) 0 ≡ get_or (c ∷ text) (length (c ∷ text) - 1) 0
last_step b c text =
    let one : length (b ∷ c ∷ text) - 1 ≡ suc (length text) = omega arith in
    let two : length (c ∷ text) - 1 ≡ length text = omega arith in
    ap (λ (n : ℕ). get_or (b ∷ c ∷ text) n 0) one ∙ ap (λ (n : ℕ). get_or (c ∷ text) n 0) (sym two)

lacks_more : (b : ℕ) (text : List ℕ) → lines_of (ended text) ≡ lines_of text → lines_of (ended (b ∷ text)) ≡ lines_of (b ∷ text)
lacks_more b text e = ap (λ (ls : List (List ℕ)). if b == 10 then [] ∷ ls else onto_first b ls) e

lacks : (text : List ℕ) → 0 < length text → get_or text (length text - 1) 0 ≢ 10 → lines_of (ended text) ≡ lines_of text
lacks [] some other = absurd (omega (arith, some))
lacks (b ∷ []) some other = lines-last [] b other
lacks (b ∷ c ∷ text) some other = lacks_more b (c ∷ text) (lacks (c ∷ text) (omega arith) (λ e. other (last_step b c text ∙ e)))

whole_more : (b : ℕ) (c : ℕ) (text : List ℕ) → IsWhole (c ∷ text) → IsWhole (b ∷ c ∷ text)
whole_more b c text whole =
    cond_both (b == 10) ([] ∷ lines_of (c ∷ text)) (onto_first b (lines_of (c ∷ text))) (λ (ls : List (List ℕ)). text_of ls ≡ b ∷ c ∷ text)
    (λ is. ap (λ (bs : List ℕ). 10 ∷ bs) whole ∙ ap (λ (d : ℕ). d ∷ c ∷ text) (sym (eqb-true b 10 is)))
    (λ other. onto_text b (lines_of (c ∷ text)) (lines_of_some c text) ∙ ap (λ (bs : List ℕ). b ∷ bs) whole)

whole : (text : List ℕ) → 0 < length text → get_or text (length text - 1) 0 ≡ 10 → IsWhole text
whole [] some ten = absurd (omega (arith, some))
whole (b ∷ []) some ten = subst (λ (c : ℕ). IsWhole (c ∷ [])) (sym ten) refl
whole (b ∷ c ∷ text) some ten = whole_more b c text (whole (c ∷ text) (omega arith) (sym (last_step b c text) ∙ ten))

not_true : (b : Bool) → not b ≡ true → b ≡ false
not_true false e = refl
not_true true e = absurd (false≢true e)

not_false : (b : Bool) → not b ≡ false → b ≡ true
not_false true e = refl
not_false false e = absurd (false≢true (sym e))

some_bytes : (n : ℕ) (empty : Bool) → empty ≡ eqb n 0 → empty ≡ false → 0 < n
some_bytes zero empty is none = absurd (false≢true (sym none ∙ is))
some_bytes (suc n) empty is none = omega arith

pub some_text : (text : List ℕ) (empty : Bool) → empty ≡ eqb (length text) 0 → empty ≡ false → 0 < length text
some_text text empty is none = some_bytes (length text) empty is none

pub lacks_end : (text : List ℕ) → 0 < length text → not (eqb (get_or text (length text - 1) 0) 10) ≡ true → lines_of (ended text) ≡ lines_of text
lacks_end text some is = lacks text some (eqb-false (get_or text (length text - 1) 0) 10 (not_true (eqb (get_or text (length text - 1) 0) 10) is))

pub has_end : (text : List ℕ) → 0 < length text → not (eqb (get_or text (length text - 1) 0) 10) ≡ false → IsWhole text
has_end text some is = whole text some (eqb-true (get_or text (length text - 1) 0) 10 (not_false (eqb (get_or text (length text - 1) 0) 10) is))

-- THE FIRST LINES OF A TEXT, with their bytes 10, are a prefix of it, if another line follows (the text's last line may have no byte 10)
pub lines_in_front : (text : List ℕ) (lines more : List (List ℕ)) (line : List ℕ) → lines_of text ≡ lines ++ line ∷ more
    → (length (text_of lines) ≤ length text) × (take (length (text_of lines)) text ≡ text_of lines)
lines_in_front text lines more line e = front text (text_of (lines_of text)) (text_of lines) (text_of (line ∷ more)) (text_back text) cut longer
  where
    cut : text_of (lines_of text) ≡ text_of lines ++ text_of (line ∷ more)
    cut = ap text_of e ∙ flat_map-append ended lines (line ∷ more)

    longer : 1 ≤ length (text_of (line ∷ more))
    longer = omega (arith, length-append (ended line) (text_of more), length-append line (10 ∷ []))

    front : (text back lines rest : List ℕ) → (back ≡ text) ⊎ (back ≡ ended text) → back ≡ lines ++ rest → 1 ≤ length rest
        → (length lines ≤ length text) × (take (length lines) text ≡ lines)
    front text back lines rest (inl same) both some = (
      omega (arith, ap length same, ap length both, length-append lines rest),
      ap (take (length lines)) (sym same ∙ both) ∙ take_at lines rest (length lines) refl,
    )
    front text back lines rest (inr more) both some =
        let short : length lines ≤ length text = omega (arith, ap length more, ap length both, length-append lines rest, length-append text (10 ∷ []), some) in
        (short, sym (take-append-le (length lines) text (10 ∷ []) short) ∙ ap (take (length lines)) (sym more ∙ both) ∙ take_at lines rest (length lines) refl)

-- a copy of that prefix has these lines
pub front_lines : (text : List ℕ) (lines more : List (List ℕ)) (line : List ℕ) → lines_of text ≡ lines ++ line ∷ more → lines_of (take (length (text_of lines)) text) ≡ lines
front_lines text lines more line e = ap lines_of (lines_in_front text lines more line e).1 ∙ front_back text lines (line ∷ more) e

-- one more line takes its bytes and its byte 10
pub text_more : (lines : List (List ℕ)) (line : List ℕ) → length (text_of (lines ++ line ∷ [])) ≡ length (text_of lines) + (length line + 1)
text_more lines line =
    ap length (flat_map-append ended lines (line ∷ []) ∙ ap (λ (bs : List ℕ). text_of lines ++ bs) (append-nil (ended line)))
    ∙ (let e : length (text_of lines ++ ended line) ≡ length (text_of lines) + (length line + 1) = omega (arith, length-append (text_of lines) (ended line), length-append line (10 ∷ [])) in e)

pub front_long : (text : List ℕ) (lines more : List (List ℕ)) → lines_of text ≡ lines ++ more → length (text_of lines) ≤ length text + 1
front_long text lines more e =
    omega (arith, back_long text, ap length (ap text_of e ∙ flat_map-append ended lines more), length-append (text_of lines) (text_of more))

-- A LINE IS APPENDED TO A TEXT whose lines have their bytes 10: it becomes the last line, with its byte 10
pub line_behind : (text line : List ℕ) → IsWhole text → IsOneLine line → (lines_of (text ++ ended line) ≡ lines_of text ++ line ∷ []) × IsWhole (text ++ ended line)
line_behind text line whole one =
    let lines = lines_of text in
    let joined : text_of (lines ++ line ∷ []) ≡ text ++ ended line = text_more-is text line whole in
    let apart : AreOneLines (lines ++ line ∷ []) = one_behind lines line (lines_one text) one in
    let back : lines_of (text_of (lines ++ line ∷ [])) ≡ lines ++ line ∷ [] =
    text-lines (lines ++ line ∷ []) (All-from_recursion (λ (l : List ℕ). All (λ b. b ≢ 10) l) (lines ++ line ∷ []) apart) in
    let read : lines_of (text ++ ended line) ≡ lines ++ line ∷ [] = ap lines_of (sym joined) ∙ back in
    (read, ap text_of read ∙ joined)
  where
    text_more-is : (text line : List ℕ) → IsWhole text → text_of (lines_of text ++ line ∷ []) ≡ text ++ ended line
    text_more-is text line whole = flat_map-append ended (lines_of text) (line ∷ []) ∙ ap (λ (t : List ℕ). t ++ text_of (line ∷ [])) whole ∙ ap (λ (t : List ℕ). text ++ t) (append-nil (ended line))

    one_behind : (lines : List (List ℕ)) (line : List ℕ) → AreOneLines lines → IsOneLine line → AreOneLines (lines ++ line ∷ [])
    one_behind [] line are one = (one, tt)
    one_behind (l ∷ lines) line are one = (are.0, one_behind lines line are.1 one)

-- the text after a line was appended, or unchanged
pub pushed_whole : {A E : Type 0} (r : Result A E) (text line bytes new : List ℕ) → IsWhole text → IsOneLine line → bytes ≡ ended line → OnOk r (new ≡ text ++ bytes) → OnErr r (new ≡ text) → IsWhole new
pushed_whole (Ok x) text line bytes new whole one is ok err = subst IsWhole (sym (ok ∙ ap (λ (t : List ℕ). text ++ t) is)) (line_behind text line whole one).1
pushed_whole (Err e) text line bytes new whole one is ok err = subst IsWhole (sym err) whole

pub pushed_lines : {A E : Type 0} (r : Result A E) (text line bytes new : List ℕ) (lines : List (List ℕ)) → IsWhole text → IsOneLine line → bytes ≡ ended line → lines_of text ≡ lines
    → OnOk r (new ≡ text ++ bytes) → OnOk r (lines_of new ≡ lines ++ line ∷ [])
pushed_lines (Ok x) text line bytes new lines whole one is same ok =
    ap lines_of (ok ∙ ap (λ (t : List ℕ). text ++ t) is) ∙ (line_behind text line whole one).0 ∙ ap (λ (ls : List (List ℕ)). ls ++ line ∷ []) same
pushed_lines (Err e) text line bytes new lines whole one is same ok = tt
