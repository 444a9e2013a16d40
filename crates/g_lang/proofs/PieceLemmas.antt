-- Invariants of the code's loops over texts.
-- serves: behind, split_at_comma (before, behind, parts), without_back, without_last
use Rattle.std.proofs.Common.{Bool, Bor, List, MatchOption, None, Option, Some, [], ap, append-nil, append_assoc, arith, drop, drop-cons, drop_of_length-le, eq-eqb, false, get_or, le_refl, length, length-drop, ne_eqb, pred, refl, subst, suc, sym, take, true, ℕ, ⊎_elim, ◌&&◌, ◌++◌, ◌+◌, ◌-◌, ◌<◌, ◌==◌, ◌∙◌, ◌∷◌, ◌≡◌, ◌≢◌, ◌≤◌}
use Rattle.std.proofs.Math.Seq.{take-length}
use Rattle.std.proofs.lemmas.Bool.{and_from, and_left, and_right, cases_eq, cond_both, not_from_false}
use Rattle.std.proofs.lemmas.List.{take_more}
use Rattle.std.specs.Prelude.{if◌then◌else◌}
use Rattle.g_lang.proofs.SpaceLemmas.{EndsWell, back-same, ends-append}
use Rattle.g_lang.proofs.ValueLemmas.{behind-append, behind-is}
use Rattle.g_lang.specs.LineReader.{before_comma, behind, behind_comma, depth_behind, parts_of, without_last}
use Rattle.g_lang.specs.Words.{before_rest, without_back}
use Rattle.g_lines.specs.Lines.{onto_first}

none_behind : (front text : List ℕ) (o : Option (List ℕ)) → behind front text ≡ o → ((rest : List ℕ) → text ≢ front ++ rest) → o ≡ None
none_behind front text None is other = refl
none_behind front text (Some rest) is other = absurd (other rest (behind-is front text rest is))

-- what `strip_prefix` returns
pub behind-from : (front text : List ℕ) (r : Option (Bor (List ℕ))) → MatchOption r ((rest : List ℕ) → text ≢ front ++ rest) (λ x. text ≡ front ++ x.now)
    → MatchOption r (behind front text ≡ None) (λ rest. behind front text ≡ Some rest.now)
behind-from front text None is = none_behind front text (behind front text) refl is
behind-from front text (Some rest) is = ap (behind front) is ∙ behind-append front rest.now

pub last-taken : (t : List ℕ) → take (length t - 1) t ≡ without_last t
last-taken [] = refl
last-taken (c ∷ []) = refl
last-taken (c ∷ d ∷ cs) =
    let e : length (c ∷ d ∷ cs) - 1 ≡ suc (length (d ∷ cs) - 1) = omega arith in
    ap (λ (n : ℕ). take n (c ∷ d ∷ cs)) e ∙ ap (λ (ts : List ℕ). c ∷ ts) (last-taken (d ∷ cs))

-- the text from a place on begins with the byte there
cut : (t : List ℕ) (i : ℕ) → i < length t → drop i t ≡ get_or t i 0 ∷ drop (i + 1) t
cut t i inside = let e : i + 1 ≡ suc i = omega arith in rw e (drop-cons t i 0 inside)

longer : (t : List ℕ) (i : ℕ) (rest : List ℕ) → i < length t → take i t ++ (get_or t i 0 ∷ rest) ≡ take (i + 1) t ++ rest
longer t i rest inside = sym (append_assoc (take i t) (get_or t i 0 ∷ []) rest) ∙ ap (λ (ts : List ℕ). ts ++ rest) (sym (take_more t i 0 inside))

-- trailing spaces
back-push : (t : List ℕ) → without_back (t ++ 32 ∷ []) ≡ without_back t
back-push [] = refl
back-push (c ∷ cs) = ap (before_rest c) (back-push cs)

back_ended : (xs : List ℕ) (c : ℕ) → (c == 32) ≡ false → EndsWell (xs ++ c ∷ [])
back_ended xs c other = ends-append xs (c ∷ []) (not_from_false _ other)

pub pushed-more : (xs t text : List ℕ) (last : ℕ) → t ≡ xs ++ last ∷ [] → last ≡ 32 → without_back t ≡ without_back text → without_back xs ≡ without_back text
pushed-more xs t text last same is kept = sym (back-push xs) ∙ ap (λ (b : ℕ). without_back (xs ++ b ∷ [])) (sym is) ∙ ap without_back (sym same) ∙ kept

pub pushed-done : (xs t text : List ℕ) (last : ℕ) → t ≡ xs ++ last ∷ [] → (last ≡ 32 → ⊥) → without_back t ≡ without_back text → t ≡ without_back text
pushed-done xs t text last same isnt kept =
    let ends : EndsWell t = subst EndsWell (sym same) (back_ended xs last (ne_eqb last 32 isnt)) in
    sym (ap without_back (sym (append-nil t)) ∙ back-same t 0 ends) ∙ kept

-- commas outside of brackets
abbrev pub onto_all : List ℕ → List (List ℕ) → List (List ℕ)
onto_all [] parts = parts
onto_all (c ∷ cs) parts = onto_first c (onto_all cs parts)

onto_push : (xs : List ℕ) (c : ℕ) (parts : List (List ℕ)) → onto_all (xs ++ c ∷ []) parts ≡ onto_all xs (onto_first c parts)
onto_push [] c parts = refl
onto_push (x ∷ xs) c parts = ap (onto_first x) (onto_push xs c parts)

pub onto-whole : (xs ys : List ℕ) (parts : List (List ℕ)) → onto_all xs (ys ∷ parts) ≡ (xs ++ ys) ∷ parts
onto-whole [] ys parts = refl
onto-whole (x ∷ xs) ys parts = ap (onto_first x) (onto-whole xs ys parts)

abbrev is_comma : ℕ → ℕ → Bool
is_comma c d = c == 44 && d == 0

pub no_comma : (c d : ℕ) → (c ≡ 44 → d ≡ 0 → ⊥) → is_comma c d ≡ false
no_comma c d other =
    ⊎_elim (λ is. and_right (c == 44) (d == 0) (ne_eqb d 0 (other is))) (λ isnt. and_left (c == 44) (d == 0) (ne_eqb c 44 isnt)) (cases_eq c 44)

pub a_comma : (c d : ℕ) → c ≡ 44 → d ≡ 0 → is_comma c d ≡ true
a_comma c d is flat = and_from _ _ (eq-eqb c 44 is) (eq-eqb d 0 flat)

pub before-step : (t : List ℕ) (i d : ℕ) → i < length t → is_comma (get_or t i 0) d ≡ false
    → take i t ++ before_comma d (drop i t) ≡ take (i + 1) t ++ before_comma (depth_behind (get_or t i 0) d) (drop (i + 1) t)
before-step t i d inside other =
    ap (λ (ts : List ℕ). take i t ++ before_comma d ts) (cut t i inside)
    ∙ rw other (longer t i (before_comma (depth_behind (get_or t i 0) d) (drop (i + 1) t)) inside)

pub past-step : (t : List ℕ) (i d : ℕ) → i < length t → is_comma (get_or t i 0) d ≡ false
    → behind_comma d (drop i t) ≡ behind_comma (depth_behind (get_or t i 0) d) (drop (i + 1) t)
past-step t i d inside other = ap (behind_comma d) (cut t i inside) ∙ rw other refl

pub parts-step : (t : List ℕ) (i d : ℕ) → i < length t → is_comma (get_or t i 0) d ≡ false
    → onto_all (take i t) (parts_of d (drop i t)) ≡ onto_all (take (i + 1) t) (parts_of (depth_behind (get_or t i 0) d) (drop (i + 1) t))
parts-step t i d inside other =
    ap (λ (ts : List ℕ). onto_all (take i t) (parts_of d ts)) (cut t i inside)
    ∙ rw other (sym (ap (λ (ts : List ℕ). onto_all ts (parts_of (depth_behind (get_or t i 0) d) (drop (i + 1) t))) (take_more t i 0 inside)
    ∙ onto_push (take i t) (get_or t i 0) (parts_of (depth_behind (get_or t i 0) d) (drop (i + 1) t))))

pub before-stop : (t : List ℕ) (i d : ℕ) → i < length t → is_comma (get_or t i 0) d ≡ true → take i t ++ before_comma d (drop i t) ≡ take i t
before-stop t i d inside is =
    ap (λ (ts : List ℕ). take i t ++ before_comma d ts) (cut t i inside) ∙ rw is (append-nil (take i t))

pub past-stop : (t : List ℕ) (i d : ℕ) → i < length t → is_comma (get_or t i 0) d ≡ true → behind_comma d (drop i t) ≡ drop (i + 1) t
past-stop t i d inside is = ap (behind_comma d) (cut t i inside) ∙ rw is refl

pub parts-stop : (t : List ℕ) (i d : ℕ) → i < length t → is_comma (get_or t i 0) d ≡ true
    → onto_all (take i t) (parts_of d (drop i t)) ≡ take i t ∷ parts_of 0 (drop (i + 1) t)
parts-stop t i d inside is =
    ap (λ (ts : List ℕ). onto_all (take i t) (parts_of d ts)) (cut t i inside)
    ∙ rw is (onto-whole (take i t) [] (parts_of 0 (drop (i + 1) t)) ∙ ap (λ (ts : List ℕ). ts ∷ parts_of 0 (drop (i + 1) t)) (append-nil (take i t)))

pub tail-all : (t : List ℕ) (k : ℕ) → take (length t - k) (drop k t) ≡ drop k t
tail-all t k = ap (λ (n : ℕ). take n (drop k t)) (sym (length-drop k t)) ∙ take-length (drop k t)

pub depth-most : (c d : ℕ) → depth_behind c d ≤ d + 1
depth-most c d =
    cond_both (c == 40) (d + 1) (if c == 41 then pred d else d) (λ (n : ℕ). n ≤ d + 1) (λ _. omega arith)
    (λ _. cond_both (c == 41) (pred d) d (λ (n : ℕ). n ≤ d + 1) (λ _. omega arith) (λ _. omega arith))

-- the invariant of the loop that searches a comma
pub record UpTo (t : List ℕ) (i d : ℕ) : Type 0 where
  pub before : before_comma 0 t ≡ take i t ++ before_comma d (drop i t)
  pub past : behind_comma 0 t ≡ behind_comma d (drop i t)
  pub parts : parts_of 0 t ≡ onto_all (take i t) (parts_of d (drop i t))
  pub deep : d ≤ i

pub up_to-more : (t : List ℕ) (i d e : ℕ) → UpTo t i d → i < length t → (get_or t i 0 ≡ 44 → d ≡ 0 → ⊥) → e ≡ depth_behind (get_or t i 0) d → UpTo t (i + 1) e
up_to-more t i d e here inside other same =
    let c = no_comma (get_or t i 0) d other in
    let most = depth-most (get_or t i 0) d in
    subst (UpTo t (i + 1)) (sym same)
    (record {
      before = here.before ∙ before-step t i d inside c;
      past = here.past ∙ past-step t i d inside c;
      parts = here.parts ∙ parts-step t i d inside c;
      deep = let h = here.deep in omega (arith, h, most);
    })

-- the text has no comma
pub record IsWhole (t : List ℕ) : Type 0 where
  pub before : before_comma 0 t ≡ t
  pub past : behind_comma 0 t ≡ []
  pub parts : parts_of 0 t ≡ t ∷ []

whole_at : (t : List ℕ) (d : ℕ) → UpTo t (length t) d → IsWhole t
whole_at t d here =
    let none : drop (length t) t ≡ [] = drop_of_length-le t {i = length t} (le_refl (length t)) in
    let all : take (length t) t ≡ t = take-length t in
    record {
      before = here.before ∙ rw (none, all) (append-nil t);
      past = here.past ∙ rw none refl;
      parts = here.parts ∙ rw (none, all) (onto-whole t [] [] ∙ ap (λ (ts : List ℕ). ts ∷ []) (append-nil t));
    }

pub up_to-all : (t : List ℕ) (i d : ℕ) → UpTo t i d → i ≤ length t → length t ≤ i → IsWhole t
up_to-all t i d here within all =
    let same : i ≡ length t = omega (arith, within, all) in
    whole_at t d (subst (λ (n : ℕ). UpTo t n d) same here)
