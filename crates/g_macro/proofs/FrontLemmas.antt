-- The first 240 bytes of a text, built byte by byte, and a line with its parameters substituted piece by piece.
-- serves: expand, fill (filled), fill_in, push, set, HoldingLemmas
use Rattle.std.proofs.Common.{Bool, List, [], ap, append_assoc, arith, drop, drop-drop, eq-eqb, false, get_or, le-ltb, leb-true, length, length-append, length-drop, length-take, lt-ltb, nat_le, nat_lt, ne_eqb, refl, subst, sym, take, take-add, take_all, true, ℕ, ◌++◌, ◌+◌, ◌-◌, ◌<◌, ◌==◌, ◌||◌, ◌∙◌, ◌∷◌, ◌≡◌, ◌≤◌}
use Rattle.std.proofs.lemmas.Bool.{and_from, and_left, and_parts, and_right, cond_both, or_from, or_parts, or_right}
use Rattle.std.proofs.lemmas.List.{take-append-le}
use Rattle.std.specs.List.{list_any}
use Rattle.std.specs.Prelude.{if◌then◌else◌}
use Rattle.g_lang.specs.Conditions.{is_param_letter}
use Rattle.g_macro.proofs.StackLemmas.{pushed}
use Rattle.g_macro.specs.Expansion.{expand, filled, first_filled, first_taken, is_asked, is_filled, param_of, substituted}
use Rattle.g_macro.specs.Fronts.{Holds, IsFilled}
use Rattle.g_macro.specs.declared.expansion.Filled.{Filled}
use Rattle.g_macro.specs.declared.expansion.Front.{Front}

-- the buffer is full: the next byte is cut off
pub push-cut : (text : List ℕ) (byte : ℕ) (items : List ℕ) → items ≡ take 240 text → length items ≡ 240
    → (items ≡ take 240 (text ++ byte ∷ [])) × (true ≡ nat_lt 240 (length (text ++ byte ∷ [])))
push-cut text byte items same full =
    let long : 240 ≤ length text = omega (arith, full, ap length same, length-take 240 text) in
    let longer : 240 < length (text ++ byte ∷ []) = omega (arith, long, length-append text (byte ∷ [])) in
    (same ∙ sym (take-append-le 240 text (byte ∷ []) long), sym (lt-ltb 240 (length (text ++ byte ∷ [])) longer))

-- the buffer has room
pub push-more : (text : List ℕ) (byte : ℕ) (items new : List ℕ) (cut : Bool) → items ≡ take 240 text → cut ≡ nat_lt 240 (length text) → length items < 240 → new ≡ items ++ byte ∷ []
    → (new ≡ take 240 (text ++ byte ∷ [])) × (cut ≡ nat_lt 240 (length (text ++ byte ∷ [])))
push-more text byte items new cut same is room pushed =
    let short : length text < 240 = omega (arith, room, ap length same, length-take 240 text) in
    let all : take 240 text ≡ text = take_all 240 text (omega (arith, short)) in
    let fits : length (text ++ byte ∷ []) ≤ 240 = omega (arith, short, length-append text (byte ∷ [])) in (
      pushed ∙ ap (λ (ts : List ℕ). ts ++ byte ∷ []) (same ∙ all) ∙ sym (take_all 240 (text ++ byte ∷ []) fits),
      is ∙ le-ltb 240 (length text) (omega (arith, short)) ∙ sym (le-ltb 240 (length (text ++ byte ∷ [])) fits),
    )

-- the first piece of a line and the rest
pub expand-first : (params : List (List ℕ)) (done rest : List ℕ) → 1 ≤ length rest
    → expand params done rest ≡ first_filled params done rest ++ expand params (done ++ take (first_taken rest) rest) (drop (first_taken rest) rest)
expand-first params done [] some = absurd (omega (arith, some))
expand-first params done (c ∷ []) some = refl
expand-first params done (c ∷ d ∷ rest) some =
    cond_both (is_filled c d) 2 1
    (λ (n : ℕ). (if is_filled c d then filled params done d ++ expand params (done ++ c ∷ d ∷ []) rest else c ∷ expand params (done ++ c ∷ []) (d ∷ rest))
    ≡ (if is_filled c d then filled params done d else c ∷ []) ++ expand params (done ++ take n (c ∷ d ∷ rest)) (drop n (c ∷ d ∷ rest)))
    (λ is. rw is refl) (λ isnt. rw isnt refl)

pub first-within : (rest : List ℕ) → 1 ≤ length rest → first_taken rest ≤ length rest
first-within [] some = absurd (omega (arith, some))
first-within (c ∷ []) some = omega arith
first-within (c ∷ d ∷ rest) some = cond_both (is_filled c d) 2 1 (λ (n : ℕ). n ≤ length (c ∷ d ∷ rest)) (λ _. omega arith) (λ _. omega arith)

-- the invariant of the loop over a line
pub record UpTo (params : List (List ℕ)) (line : List ℕ) (at : ℕ) (front : Front) : Type 0 where
  pub text : List ℕ
  pub is : Holds text front
  pub same : text ++ expand params (take at line) (drop at line) ≡ substituted params line
  pub within : at ≤ length line

pub up_to-more : (params : List (List ℕ)) (line : List ℕ) (at n : ℕ) (old new : Front) → UpTo params line at old → at < length line → n ≡ first_taken (drop at line)
    → ((text : List ℕ) → Holds text old → Holds (text ++ first_filled params (take at line) (drop at line)) new) → UpTo params line (at + n) new
up_to-more params line at n old new here inside is fills =
    let rest = drop at line in
    let some : 1 ≤ length rest = omega (arith, inside, length-drop at line) in
    let front : take at line ++ take n rest ≡ take (at + n) line = sym (take-add at n line) in
    let behind : drop n rest ≡ drop (at + n) line = drop-drop n at line in
    let step : expand params (take at line) rest ≡ first_filled params (take at line) rest ++ expand params (take (at + n) line) (drop (at + n) line) =
    expand-first params (take at line) rest some
    ∙ ap (λ (k : ℕ). first_filled params (take at line) rest ++ expand params (take at line ++ take k rest) (drop k rest)) (sym is)
    ∙ ap (λ (ts : List ℕ). first_filled params (take at line) rest ++ expand params ts (drop n rest)) front
    ∙ ap (λ (ts : List ℕ). first_filled params (take at line) rest ++ expand params (take (at + n) line) ts) behind in
    record {
      text = here.text ++ first_filled params (take at line) rest;
      is = fills here.text here.is;
      same = append_assoc here.text (first_filled params (take at line) rest) (expand params (take (at + n) line) (drop (at + n) line))
          ∙ ap (λ (ts : List ℕ). here.text ++ ts) (sym step) ∙ here.same;
      within = let w = first-within rest some in omega (arith, w, is, inside, length-drop at line);
    }

-- the first piece of the rest
pub single-last : (params : List (List ℕ)) (done rest : List ℕ) → 1 ≤ length rest → length rest < 2 → first_filled params done rest ≡ get_or rest 0 0 ∷ []
single-last params done [] some short = absurd (omega (arith, some))
single-last params done (c ∷ []) some short = refl
single-last params done (c ∷ d ∷ rest) some short = absurd (omega (arith, short))

pub single-other : (params : List (List ℕ)) (done rest : List ℕ) → 1 ≤ length rest → (get_or rest 0 0 ≡ 37 → ⊥) → first_filled params done rest ≡ get_or rest 0 0 ∷ []
single-other params done [] some other = absurd (omega (arith, some))
single-other params done (c ∷ []) some other = refl
single-other params done (c ∷ d ∷ rest) some other =
    let isnt : is_filled c d ≡ false = and_left (c == 37) (d == 37 || is_param_letter d) (ne_eqb c 37 other) in
    rw isnt refl

pub single-plain : (params : List (List ℕ)) (done rest : List ℕ) → 2 ≤ length rest → (get_or rest 1 0 ≡ 37 → ⊥) → is_param_letter (get_or rest 1 0) ≡ false
    → first_filled params done rest ≡ get_or rest 0 0 ∷ []
single-plain params done [] some other plain = absurd (omega (arith, some))
single-plain params done (c ∷ []) some other plain = absurd (omega (arith, some))
single-plain params done (c ∷ d ∷ rest) some other plain =
    let isnt : is_filled c d ≡ false = and_right (c == 37) (d == 37 || is_param_letter d) (or_from (d == 37) (is_param_letter d) (ne_eqb d 37 other) plain) in
    rw isnt refl

letter_filled : (c d : ℕ) → c ≡ 37 → is_param_letter d ≡ true → is_filled c d ≡ true
letter_filled c d is letter = and_from (c == 37) (d == 37 || is_param_letter d) (eq-eqb c 37 is) (or_right (d == 37) (is_param_letter d) letter)

pub asked-stays : (params : List (List ℕ)) (done rest : List ℕ) → 2 ≤ length rest → get_or rest 0 0 ≡ 37 → (get_or rest 1 0 ≡ 37 → ⊥) → is_param_letter (get_or rest 1 0) ≡ true
    → is_asked done ≡ true → first_filled params done rest ≡ get_or rest 0 0 ∷ get_or rest 1 0 ∷ []
asked-stays params done [] some is other letter asked = absurd (omega (arith, some))
asked-stays params done (c ∷ []) some is other letter asked = absurd (omega (arith, some))
asked-stays params done (c ∷ d ∷ rest) some is other letter asked =
    rw (letter_filled c d is letter, ne_eqb d 37 other, asked) (ap (λ (b : ℕ). b ∷ d ∷ []) (sym is))

pub put-in : (params : List (List ℕ)) (done rest : List ℕ) → 2 ≤ length rest → get_or rest 0 0 ≡ 37 → (get_or rest 1 0 ≡ 37 → ⊥) → is_param_letter (get_or rest 1 0) ≡ true
    → is_asked done ≡ false → first_filled params done rest ≡ param_of params (get_or rest 1 0)
put-in params done [] some is other letter asked = absurd (omega (arith, some))
put-in params done (c ∷ []) some is other letter asked = absurd (omega (arith, some))
put-in params done (c ∷ d ∷ rest) some is other letter asked = rw (letter_filled c d is letter, ne_eqb d 37 other, asked) refl

pub letter-inside : (letter count : ℕ) → is_param_letter letter ≡ true → count ≡ 24 → letter - 65 < count
letter-inside letter count is all =
    let high : letter ≤ 88 = leb-true letter 88 (and_parts (nat_le 65 letter) (nat_le letter 88) is).1 in
    omega (arith, high, all)

-- a line without `%` is unchanged
pub expand-plain : (params : List (List ℕ)) (done line : List ℕ) → list_any (λ (c : ℕ). c == 37) line ≡ false → expand params done line ≡ line
expand-plain params done [] none = refl
expand-plain params done (c ∷ []) none = refl
expand-plain params done (c ∷ d ∷ rest) none =
    let both = or_parts (c == 37) (list_any (λ (b : ℕ). b == 37) (d ∷ rest)) none in
    let isnt : is_filled c d ≡ false = and_left (c == 37) (d == 37 || is_param_letter d) both.0 in
    rw isnt (ap (λ (ts : List ℕ). c ∷ ts) (expand-plain params (done ++ c ∷ []) (d ∷ rest) both.1))

pub filled-plain : (params : List (List ℕ)) (line text : List ℕ) → length line ≤ 240 → list_any (λ (c : ℕ). c == 37) line ≡ false → text ≡ line
    → IsFilled (substituted params line) (record { text = text; is_cut = false })
filled-plain params line text short none is =
    subst (λ (ts : List ℕ). let filled : Filled = record { text = text; is_cut = false } in IsFilled ts filled) (sym (expand-plain params [] line none))
    (is ∙ sym (take_all 240 line short), sym (le-ltb 240 (length line) short))
