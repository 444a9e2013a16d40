-- A document that is held open: the last of the levels, which is the first in the code's list.
-- serves: add_line, is_input, is_ready, is_ready_with, is_some_ready, ready_with, crates above
use Rattle.std.proofs.Common.{Bool, List, [], ap, arith, drop, drop_of_length-le, false, get_or, if◌then◌else◌, le-leb, le-ltb, length, length-append, lt-ltb, not, None, Option, Some, refl, reverse, set, slice_get, subst, sym, take_all, true, ℕ, ⊎_elim, ◌&&◌, ◌||◌, ◌++◌, ◌+◌, ◌<◌, ◌∙◌, ◌∷◌, ◌≡◌, ◌≤◌, ◌==◌}
use Rattle.std.proofs.Math.ListN.{get_or-append}
use Rattle.std.proofs.Math.Seq.{get_or-append_seam}
use Rattle.std.proofs.lemmas.Bool.{cases_lt, false≢true, lt-leb, ltb-false, ltb-true}
use Rattle.std.proofs.lemmas.List.{drop-append-le, drop-drop, reverse-append}
use Rattle.std.proofs.lemmas.List.Folds.{list_any-append}
use Rattle.std.proofs.lemmas.List.Sorted.{IsPermutation-reverse, list_any-IsPermutation}
use Rattle.std.specs.List.{list_any}
use Rattle.std.specs.Prelude.{nat_le}
use Rattle.g_lang.specs.LineReader.{reading}
use Rattle.g_lang.specs.Meaning.{is_input_said}
use Rattle.g_lines.specs.Lines.{lines_of}
use Rattle.g_macro.proofs.FrontLemmas.{expand-plain}
use Rattle.g_macro.specs.Expansion.{substituted}
use Rattle.g_macro.specs.Fronts.{Holds}
use Rattle.g_macro.specs.Holding.{are_ready, is_closed, line_added, line_ready, some_ready, takes_input, with_document, with_typed}
use Rattle.g_macro.specs.Levels.{Level, Stack, as_taken, has_line, is_closing, is_last, line_at, lines_left}
use Rattle.g_macro.specs.declared.expansion.Front.{Front}

-- another document below the levels
with_document-last : (change : Level → Level) (above : List Level) (document : Level) → with_document change (above ++ document ∷ []) ≡ above ++ change document ∷ []
with_document-last change [] document = refl
with_document-last change (level ∷ []) document = refl
with_document-last change (level ∷ other ∷ above) document = ap (λ (ls : List Level). level ∷ ls) (with_document-last change (other ∷ above) document)

pub typed_last : (items : List Level) (held : Bool) (old new : Level) (line : List ℕ) (now : Stack) → record { levels = reverse items; held = held } ≡ now → 0 < length items
    → old ≡ get_or items 0 old → new ≡ line_added line old → ◌≡◌ {A = Stack} (record { levels = reverse (set items 0 new); held = held }) (with_typed line now)
typed_last [] held old new line now was some is same = absurd (omega (arith, some))
typed_last (document ∷ above) held old new line now was some is same =
    ap (λ (ls : List Level). let s : Stack = record { levels = ls; held = held } in s)
    (reverse-append (new ∷ []) above ∙ ap (λ (l : Level). reverse above ++ l ∷ []) (same ∙ ap (line_added line) is)
    ∙ sym (with_document-last (line_added line) (reverse above) document) ∙ ap (with_document (line_added line)) (sym (reverse-append (document ∷ []) above)))
    ∙ ap (with_typed line) was

pub some_levels : (items : List Level) (empty : Bool) → empty ≡ (length items == 0) → empty ≡ false → 0 < length items
some_levels [] empty is none = absurd (false≢true (sym none ∙ is))
some_levels (document ∷ above) empty is none = omega arith

-- whether one of the levels is ready
or-assoc : (a b c : Bool) → ((a || b) || c) ≡ (a || (b || c))
or-assoc true b c = refl
or-assoc false b c = refl

some_ready-last : (above : List Level) (document : Level) → some_ready (above ++ document ∷ []) ≡ (list_any has_line above || line_ready document)
some_ready-last [] document = refl
some_ready-last (level ∷ []) document = sym (or-assoc (has_line level) false (line_ready document))
some_ready-last (level ∷ other ∷ above) document =
    ap (λ (b : Bool). has_line level || b) (some_ready-last (other ∷ above) document) ∙ sym (or-assoc (has_line level) (list_any has_line (other ∷ above)) (line_ready document))

pub ready_last : (document : Level) (above : List Level) → some_ready (reverse (document ∷ above)) ≡ (list_any has_line above || line_ready document)
ready_last document above =
    ap some_ready (reverse-append (document ∷ []) above) ∙ some_ready-last (reverse above) document
    ∙ ap (λ (b : Bool). b || line_ready document) (sym (list_any-IsPermutation has_line above (reverse above) (IsPermutation-reverse above)))

-- whether a line takes a document, by the first bytes that the code stores of it
pub input_front : (text : List ℕ) (front : Front) → Holds text front → takes_input (as_taken text) ≡ (not front.is_cut && is_input_said (reading front.bytes.items))
input_front text front holds =
    ⊎_elim
    (λ long.
    let cut : front.is_cut ≡ true = holds.1 ∙ lt-ltb 240 (length text) long in
    let other : nat_le (length text) 240 ≡ false = lt-leb (length text) 240 long in
    rw (other, cut) refl)
    (λ short.
    let uncut : front.is_cut ≡ false = holds.1 ∙ le-ltb 240 (length text) short in
    let fits : nat_le (length text) 240 ≡ true = le-leb (length text) 240 short in
    let whole : front.bytes.items ≡ text = holds.0 ∙ take_all 240 text short in
    rw (fits, uncut, whole) refl)
    (cases_lt 240 (length text))

pub input_plain : (text : List ℕ) → length text ≤ 240 → takes_input (as_taken text) ≡ is_input_said (reading text)
input_plain text short = let fits : nat_le (length text) 240 ≡ true = le-leb (length text) 240 short in rw fits refl

-- the lines after the next one
pub closed_left : (level : Level) (left : List ℕ) → lines_of left ≡ lines_left level → list_any is_closing (drop 1 (lines_of left)) ≡ is_closed level
closed_left level left is = ap (λ (ls : List (List ℕ)). list_any is_closing (drop 1 ls)) is ∙ ap (list_any is_closing) (drop-drop 1 level.taken level.lines)

-- a line without `%` is unchanged
pub input_unfilled : (params : List (List ℕ)) (line : List ℕ) → length line ≤ 240 → list_any (λ (c : ℕ). c == 37) line ≡ false → takes_input (as_taken (substituted params line)) ≡ is_input_said (reading line)
input_unfilled params line short none = ap (λ (text : List ℕ). takes_input (as_taken text)) (expand-plain params [] line none) ∙ input_plain line short

-- a level with a line left is ready if that line allows it
pub ready_by : (level : Level) (input closed : Bool) → has_line level ≡ true → input ≡ takes_input (as_taken (substituted level.params (line_at level))) → closed ≡ is_closed level
    → (not input || closed) ≡ line_ready level
ready_by level input closed has takes closes = rw (has, takes, closes) refl

-- A LINE AT THE END: the next line is unchanged if there was one, otherwise it is the new line
more_lines : (level : Level) (line : List ℕ) → level.taken ≤ length level.lines → has_line (line_added line level) ≡ true
more_lines level line within = let more = length-append level.lines (line ∷ []) in lt-ltb level.taken (length (level.lines ++ line ∷ [])) (omega (arith, within, more))

nothing_behind : (level : Level) (line : List ℕ) → level.taken ≡ length level.lines → is_closed (line_added line level) ≡ false
nothing_behind level line over =
    let more = length-append level.lines (line ∷ []) in
    ap (list_any is_closing) (drop_of_length-le (level.lines ++ line ∷ []) (omega (arith, over, more)))

or_false : (b : Bool) → (b || false) ≡ b
or_false true = refl
or_false false = refl

pub ready_new : (level : Level) (line : List ℕ) (input : Bool) → level.taken ≤ length level.lines → has_line level ≡ false → input ≡ takes_input (as_taken (substituted level.params line))
    → not input ≡ line_ready (line_added line level)
ready_new level line input within none takes =
    let over : level.taken ≡ length level.lines = (let most : length level.lines ≤ level.taken = ltb-false level.taken (length level.lines) none in omega (arith, within, most)) in
    let next : line_at (line_added line level) ≡ line = ap (λ (n : ℕ). get_or (level.lines ++ line ∷ []) n []) over ∙ get_or-append_seam level.lines line [] [] in
    sym (or_false (not input))
    ∙ ready_by (line_added line level) input false (more_lines level line within)
    (takes ∙ ap (λ (text : List ℕ). takes_input (as_taken (substituted level.params text))) (sym next)) (sym (nothing_behind level line over))

-- whether the next line takes a document
abbrev input_next : Level → Bool
input_next level = takes_input (as_taken (substituted level.params (line_at level)))

more_ready : (level : Level) (line : List ℕ) → has_line level ≡ true → line_ready (line_added line level) ≡ (not (input_next level) || (is_closed level || is_closing line))
more_ready level line has =
    let less : level.taken < length level.lines = ltb-true level.taken (length level.lines) has in
    let next : line_at (line_added line level) ≡ line_at level = get_or-append level.lines (line ∷ []) [] level.taken less in
    let closes : is_closed (line_added line level) ≡ (is_closed level || is_closing line) =
    ap (list_any is_closing) (drop-append-le (level.taken + 1) level.lines (line ∷ []) (omega (arith, less)))
    ∙ list_any-append is_closing (drop (level.taken + 1) level.lines) (line ∷ []) ∙ ap (λ (b : Bool). is_closed level || b) (or_false (is_closing line)) in
    sym (ready_by (line_added line level) (input_next level) (is_closed level || is_closing line) (more_lines level line (omega (arith, less)))
    (ap (λ (text : List ℕ). takes_input (as_taken (substituted level.params text))) (sym next)) (sym closes))

-- a level that was ready remains ready
stays_by : (input closed closing : Bool) → (not input || closed) ≡ true → (not input || (closed || closing)) ≡ true
stays_by true true closing ready = refl
stays_by true false closing ready = absurd (false≢true ready)
stays_by false closed closing ready = refl

both_of : (a b : Bool) → (a && b) ≡ true → (a ≡ true) × (b ≡ true)
both_of true b is = (refl, is)
both_of false b is = absurd (false≢true is)

ready_stays : (level : Level) (line : List ℕ) → line_ready level ≡ true → line_ready (line_added line level) ≡ true
ready_stays level line ready =
    let parts = both_of (has_line level) (not (input_next level) || is_closed level) ready in
    more_ready level line parts.0 ∙ stays_by (input_next level) (is_closed level) (is_closing line) parts.1

not_last : (change : Level → Level) (level : Level) (below : List Level) → is_last (with_document change (level ∷ below)) ≡ false
not_last change level [] = refl
not_last change level (other ∷ below) = refl

above_ready : (level other : Level) (below : List Level) (change : Level → Level)
    → some_ready (level ∷ with_document change (other ∷ below)) ≡ (has_line level || some_ready (with_document change (other ∷ below)))
above_ready level other below change =
    ap (λ (b : Bool). if b then line_ready level else has_line level || some_ready (with_document change (other ∷ below))) (not_last change other below)

some_stays : (line : List ℕ) (levels : List Level) → some_ready levels ≡ true → some_ready (with_document (line_added line) levels) ≡ true
some_stays line [] ready = absurd (false≢true ready)
some_stays line (level ∷ []) ready = ready_stays level line ready
some_stays line (level ∷ other ∷ below) ready = above_ready level other below (line_added line) ∙ by (has_line level) ready (some_stays line (other ∷ below))
  where
    by : (b : Bool) → (b || some_ready (other ∷ below)) ≡ true → (some_ready (other ∷ below) ≡ true → some_ready (with_document (line_added line) (other ∷ below)) ≡ true)
        → (b || some_ready (with_document (line_added line) (other ∷ below))) ≡ true
    by true is rest = refl
    by false is rest = rest is

pub are_ready_stays : (line : List ℕ) (s : Stack) → are_ready s ≡ true → are_ready (with_typed line s) ≡ true
are_ready_stays line s ready = by s.held ready
  where
    by : (held : Bool) → (not held || some_ready s.levels) ≡ true → (not held || some_ready (with_document (line_added line) s.levels)) ≡ true
    by true is = some_stays line s.levels is
    by false is = refl

-- levels that aren't ready depend only on their document
neither_of : (a b : Bool) → (a || b) ≡ false → (a ≡ false) × (b ≡ false)
neither_of true b is = absurd (false≢true (sym is))
neither_of false b is = (refl, is)

pub typed_ready : (document : Level) (above : List Level) (held : Bool) (line : List ℕ) (now : Stack) → record { levels = reverse (document ∷ above); held = held } ≡ now
    → are_ready now ≡ false → (line_ready document ≡ false) × (line_ready (line_added line document) ≡ are_ready (with_typed line now))
typed_ready document above held line now was waits =
    let parts = neither_of (not held) (some_ready (reverse (document ∷ above))) (ap are_ready was ∙ waits) in
    let levels = neither_of (list_any has_line above) (line_ready document) (sym (ready_last document above) ∙ parts.1) in (
      levels.1,
      ap (λ (b : Bool). b || line_ready (line_added line document)) (sym levels.0) ∙ sym (ready_last (line_added line document) above)
          ∙ ap some_ready
          (reverse-append (line_added line document ∷ []) above ∙ sym (with_document-last (line_added line) (reverse above) document)
          ∙ ap (with_document (line_added line)) (sym (reverse-append (document ∷ []) above)))
          ∙ ap (λ (b : Bool). b || some_ready (with_document (line_added line) (reverse (document ∷ above)))) (sym parts.0) ∙ ap (λ (s : Stack). are_ready (with_typed line s)) was,
    )

pub typed_first : (items : List Level) (held : Bool) (document : Level) (line : List ℕ) (now : Stack) → record { levels = reverse items; held = held } ≡ now → Some document ≡ slice_get items 0
    → are_ready now ≡ false → (line_ready document ≡ false) × (line_ready (line_added line document) ≡ are_ready (with_typed line now))
typed_first [] held document line now was is waits =
    absurd (let one : Option Level = Some document in let none : Option Level = None in let same : one ≡ none = is in let never : ⊥ = cc in never)
typed_first (level ∷ above) held document line now was is waits =
    let same : level ≡ document = (let one : Option Level = Some document in let other : Option Level = Some level in let both : one ≡ other = is in let back : level ≡ document = cc in back) in
    subst (λ (x : Level). (line_ready x ≡ false) × (line_ready (line_added line x) ≡ are_ready (with_typed line now))) same (typed_ready level above held line now was waits)
