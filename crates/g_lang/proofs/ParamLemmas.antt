-- Counting parameters, and the parameter at a place.
-- serves: count_params, param_at, params
use Rattle.std.proofs.Common.{Bool, Bor, Err, IfOk, List, MatchOption, None, Ok, Option, Result, Some, [], ap, arith, drop, drop-drop, eq-eqb, eqb-true, false, length, length-drop, refl, subst, suc, sym, true, zero, ℕ, ◌+◌, ◌-◌, ◌<◌, ◌∙◌, ◌∷◌, ◌≡◌, ◌≤◌}
use Rattle.std.proofs.lemmas.Bool.{false≢true}
use Rattle.std.specs.Prelude.{◌==◌}
use Rattle.std.proofs.lemmas.List.{length-map}
use Rattle.std.proofs.lemmas.Option.{slice_get_past}
use Rattle.std.specs.List.{slice_get}
use Rattle.g_lang.proofs.ParseLemmas.{left-less, left-more, params-first}
use Rattle.g_lang.proofs.PartLemmas.{some-parts}
use Rattle.g_lang.specs.LineReader.{behind_comma, params_read, parts_of}
use Rattle.g_lang.specs.Texts.{bytes_left, params_left, params_of}
use Rattle.g_lang.specs.Words.{trimmed}

-- a text of a Model, and what is read from it
pub list_is : {E : Type 0} (r : Result (List (List ℕ)) E) (text given : List ℕ) (o : List (List ℕ)) → IfOk r (λ params. params ≡ params_read given) → given ≡ text
    → params_read text ≡ o → IfOk r (λ params. params ≡ o)
list_is (Ok params) text given o is same view = is ∙ ap params_read same ∙ view
list_is (Err e) text given o is same view = tt

pub text_there : (text given : List ℕ) (place : ℕ) (param made : List ℕ) (o : Option (List ℕ)) → slice_get (params_read given) place ≡ Some param → made ≡ param → given ≡ text
    → slice_get (params_read text) place ≡ o → Some made ≡ o
text_there text given place param made o at is same view =
    ap (λ (t : List ℕ). let p : Option (List ℕ) = Some t in p) is ∙ sym at ∙ ap (λ (ts : List ℕ). slice_get (params_read ts) place) same ∙ view

pub text_lacks : (text given : List ℕ) (place : ℕ) (o : Option (List ℕ)) → slice_get (params_read given) place ≡ None → given ≡ text → slice_get (params_read text) place ≡ o → None ≡ o
text_lacks text given place o none same view = sym none ∙ ap (λ (ts : List ℕ). slice_get (params_read ts) place) same ∙ view

-- what is left at the beginning
empty_text : (text : List ℕ) → (length text == 0) ≡ true → text ≡ []
empty_text [] is = refl
empty_text (c ∷ cs) is = let none : length (c ∷ cs) ≡ 0 = eqb-true (length (c ∷ cs)) 0 is in absurd (omega (arith, none))

pub left_none_first : (text : List ℕ) (b : Bool) → b ≡ (length text == 0) → b ≡ true → params_left None ≡ params_read text
left_none_first text b same is = sym (ap params_read (empty_text text (sym same ∙ is)))

pub left_all_first : (text : Bor (List ℕ)) (b : Bool) → b ≡ (length text.now == 0) → b ≡ false → params_left (Some text) ≡ params_read text.now
left_all_first text b same is = params-first text (λ none. false≢true (sym is ∙ same ∙ eq-eqb (length text.now) 0 (ap length none)))

-- the first parameter, and the rest after it
pub left_params : (rest part : List ℕ) (more : Option (Bor (List ℕ))) → MatchOption more (parts_of 0 rest ≡ part ∷ []) (λ r. parts_of 0 rest ≡ part ∷ parts_of 0 r.now)
    → params_left more ≡ drop 1 (params_of rest)
left_params rest part more is = sym (ap (drop 1) (left-more rest part more is))

pub left_first : (rest part p : List ℕ) (more : Option (Bor (List ℕ))) → MatchOption more (parts_of 0 rest ≡ part ∷ []) (λ r. parts_of 0 rest ≡ part ∷ parts_of 0 r.now)
    → p ≡ trimmed part → slice_get (params_of rest) 0 ≡ Some p
left_first rest part p more is same =
    ap (λ (ps : List (List ℕ)). slice_get ps 0) (left-more rest part more is) ∙ ap (λ (t : List ℕ). let o : Option (List ℕ) = Some t in o) (sym same)

pub left_bytes : (rest : List ℕ) (more : Option (Bor (List ℕ))) → MatchOption more (behind_comma 0 rest ≡ []) (λ r. (r.now ≡ behind_comma 0 rest) × (length r.now < length rest))
    → bytes_left more ≤ length rest
left_bytes rest more is = omega (arith, left-less rest more is)

-- the invariant of the counting loop
pub record Counted (text : List ℕ) (count : ℕ) (left : Option (Bor (List ℕ))) : Type 0 where
  pub counted : count + length (params_left left) ≡ length (params_read text)
  pub size : count + bytes_left left ≤ suc (length text)

pub counted_first : (text : List ℕ) (left : Option (Bor (List ℕ))) → params_left left ≡ params_read text → bytes_left left ≤ length text + 1 → Counted text 0 left
counted_first text left same within = record {
  counted = omega (arith, ap length same);
  size = omega (arith, within);
}

some_of : (rest : List ℕ) → 1 ≤ length (params_of rest)
some_of rest = omega (arith, some-parts 0 rest, length-map (parts_of 0 rest) trimmed)

pub counted_more : (text : List ℕ) (count : ℕ) (left more : Option (Bor (List ℕ))) (rest : Bor (List ℕ)) → Counted text count left → left ≡ Some rest
    → params_left more ≡ drop 1 (params_of rest.now) → bytes_left more ≤ length rest.now → Counted text (count + 1) more
counted_more text count left more rest there is same shorter =
    let here : Counted text count (Some rest) = subst (Counted text count) is there in
    let counted : count + length (params_of rest.now) ≡ length (params_read text) = here.counted in
    let size : count + suc (length rest.now) ≤ suc (length text) = here.size in
    let less : length (params_left more) ≡ length (params_of rest.now) - 1 = ap length same ∙ length-drop 1 (params_of rest.now) in
    record {
      counted = omega (arith, counted, less, some_of rest.now);
      size = omega (arith, size, shorter);
    }

pub counted_none : (text : List ℕ) (count : ℕ) (left : Option (Bor (List ℕ))) → Counted text count left → left ≡ None → count ≡ length (params_read text)
counted_none text count left there is =
    let here : Counted text count None = subst (Counted text count) is there in
    let counted : count + 0 ≡ length (params_read text) = here.counted in
    omega (arith, counted)

pub counted_all : (text : List ℕ) (count : ℕ) (left : Option (Bor (List ℕ))) → Counted text count left → length text + 1 ≤ count → count ≡ length (params_read text)
counted_all text count None here past = counted_none text count None here refl
counted_all text count (Some rest) here past =
    let size : count + suc (length rest.now) ≤ suc (length text) = here.size in
    absurd (omega (arith, size, past))

-- the parameter at a place
get_drop : (xs : List (List ℕ)) (n : ℕ) → slice_get (drop n xs) 0 ≡ slice_get xs n
get_drop [] zero = refl
get_drop [] (suc n) = refl
get_drop (x ∷ xs) zero = refl
get_drop (x ∷ xs) (suc n) = get_drop xs n

pub left_more : (params : List (List ℕ)) (step : ℕ) (left more : Option (Bor (List ℕ))) (rest : Bor (List ℕ)) → params_left left ≡ drop step params → left ≡ Some rest
    → params_left more ≡ drop 1 (params_of rest.now) → params_left more ≡ drop (step + 1) params
left_more params step left more rest at is same =
    let here : params_of rest.now ≡ drop step params = sym (ap params_left is) ∙ at in
    same ∙ ap (drop 1) here ∙ drop-drop 1 step params

pub left_none : (params : List (List ℕ)) (step place : ℕ) (left : Option (Bor (List ℕ))) → params_left left ≡ drop step params → left ≡ None → step ≤ place
    → slice_get params place ≡ None
left_none params step place left at is within =
    let none : drop step params ≡ [] = sym at ∙ ap params_left is in
    let short : length params - step ≡ 0 = sym (length-drop step params) ∙ ap length none in
    slice_get_past params place (omega (arith, short, within))

pub left_some : (params : List (List ℕ)) (step place : ℕ) (left : Option (Bor (List ℕ))) (rest : Bor (List ℕ)) (p : List ℕ) → params_left left ≡ drop step params → left ≡ Some rest
    → step ≡ place → slice_get (params_of rest.now) 0 ≡ Some p → slice_get params place ≡ Some p
left_some params step place left rest p at is same first =
    let here : params_of rest.now ≡ drop step params = sym (ap params_left is) ∙ at in
    let there : slice_get params step ≡ Some p = sym (get_drop params step) ∙ ap (λ (ps : List (List ℕ)). slice_get ps 0) (sym here) ∙ first in
    subst (λ (n : ℕ). slice_get params n ≡ Some p) same there
