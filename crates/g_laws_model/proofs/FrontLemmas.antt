-- The shortest front that is enough, of numbers that rise, is those below some number.
-- serves: CallLemmas, TakenLemmas
use Rattle.std.proofs.Common.{◌≡◌, ℕ, suc, ◌<◌, ◌≤◌, List, [], ◌∷◌, refl, sym, ◌∙◌, ap, inl, inr, arith}
use Rattle.std.specs.Prelude.{◌⊎◌, Bool, true, false, cond, filter, nat_lt, ◌==◌}
use Rattle.std.proofs.lemmas.Bool.{both_ways, cases_Bool, cases_lt, eqb-true, false≢true, le-ltb, lt-ltb, or_cases}
use Rattle.g_laws_model.specs.Calls.{is_among, shortest}

abbrev pub below : ℕ → List ℕ → List ℕ
below until xs = filter (λ x. nat_lt x until) xs

abbrev pub Above : ℕ → List ℕ → Type 0
Above low [] = Unit {0}
Above low (x ∷ xs) = (low ≤ x) × Above (suc x) xs

abbrev pub Under : ℕ → List ℕ → Type 0
Under until [] = Unit {0}
Under until (x ∷ xs) = (x < until) × Under until xs

-- numbers that rise, below one
keeps_first : (until x : ℕ) (xs : List ℕ) → x < until → below until (x ∷ xs) ≡ x ∷ below until xs
keeps_first until x xs less = ap (λ (b : Bool). cond b (x ∷ below until xs) (below until xs)) (lt-ltb x until less)

drops_first : (until x : ℕ) (xs : List ℕ) → until ≤ x → below until (x ∷ xs) ≡ below until xs
drops_first until x xs le = ap (λ (b : Bool). cond b (x ∷ below until xs) (below until xs)) (le-ltb x until le)

none_below : (until low : ℕ) (xs : List ℕ) → until ≤ low → Above low xs → below until xs ≡ []
none_below until low [] le above = refl
none_below until low (x ∷ xs) le above =
    let more : until ≤ x = omega (arith, le, above.0) in
    drops_first until x xs more ∙ none_below until (suc x) xs (omega (arith, more)) above.1

pub under_all : (until n stamp : ℕ) (xs : List ℕ) → Under until xs → is_among stamp (below n xs) ≡ true → stamp < until
under_all until n stamp [] under there = absurd (false≢true there)
under_all until n stamp (x ∷ xs) under there = by (nat_lt x n) there (λ is. under_all until n stamp xs under.1 is)
  where
    at : ((stamp == x) ≡ true) ⊎ (is_among stamp (below n xs) ≡ true) → (is_among stamp (below n xs) ≡ true → stamp < until) → stamp < until
    at (inl here) more = let same = eqb-true stamp x here in omega (arith, same, under.0)
    at (inr behind) more = more behind

    by : (b : Bool) → is_among stamp (cond b (x ∷ below n xs) (below n xs)) ≡ true → (is_among stamp (below n xs) ≡ true → stamp < until) → stamp < until
    by false is more = more is
    by true is more = at (or_cases (stamp == x) (is_among stamp (below n xs)) is) more

-- WHAT IS ENOUGH, and nothing less
abbrev pub IsEnough : (List ℕ → Bool) → ℕ → List ℕ → Type 0
IsEnough enough until xs = (enough (below until xs) ≡ true) ⊎ Under until xs

abbrev pub IsLeast : (List ℕ → Bool) → ℕ → ℕ → List ℕ → Type 0
IsLeast enough low until xs = (lower : ℕ) → low ≤ lower → lower < until → enough (below lower xs) ≡ false

pub is_shortest : (enough : List ℕ → Bool) (until low : ℕ) (xs : List ℕ) → Above low xs → IsEnough enough until xs → IsLeast enough low until xs → below until xs ≡ shortest enough xs
is_shortest enough until low [] above is least = refl
is_shortest enough until low (x ∷ xs) above is least = by (cases_Bool (enough [])) (cases_lt x until) (λ e l. is_shortest (λ front. enough (x ∷ front)) until (suc x) xs above.1 e l)
  where
    none : (n : ℕ) → n ≤ x → below n (x ∷ xs) ≡ []
    none n le = none_below n x (x ∷ xs) le ((let self : x ≤ x = omega arith in self), above.1)

    left : enough [] ≡ false → until ≤ x → IsEnough enough until (x ∷ xs) → ⊥
    left e le (inl is_enough) = both_ways (enough []) e (sym (ap enough (none until le)) ∙ is_enough)
    left e le (inr under) = let no : ⊥ = omega (arith, le, under.0) in no

    enough_there : x < until → IsEnough enough until (x ∷ xs) → IsEnough (λ front. enough (x ∷ front)) until xs
    enough_there less (inl is_enough) = inl (sym (ap enough (keeps_first until x xs less)) ∙ is_enough)
    enough_there less (inr under) = inr under.1

    least_there : IsLeast (λ front. enough (x ∷ front)) (suc x) until xs
    least_there lower ge under = sym (ap enough (keeps_first lower x xs (omega (arith, ge)))) ∙ least lower (omega (arith, ge, above.0)) under

    by : (enough [] ≡ true) ⊎ (enough [] ≡ false) → (x < until) ⊎ (until ≤ x)
        → (IsEnough (λ front. enough (x ∷ front)) until xs → IsLeast (λ front. enough (x ∷ front)) (suc x) until xs → below until xs ≡ shortest (λ front. enough (x ∷ front)) xs)
        → below until (x ∷ xs) ≡ shortest enough (x ∷ xs)
    by (inl e) (inl less) more =
        absurd (both_ways (enough []) (sym (ap enough (none x (omega arith))) ∙ least x above.0 less) e)
    by (inl e) (inr le) more = none until le ∙ sym (ap (λ (b : Bool). cond b [] (x ∷ shortest (λ front. enough (x ∷ front)) xs)) e)
    by (inr e) (inr le) more = absurd (left e le is)
    by (inr e) (inl less) more =
        keeps_first until x xs less ∙ ap (λ (ys : List ℕ). x ∷ ys) (more (enough_there less is) least_there)
        ∙ sym (ap (λ (b : Bool). cond b [] (x ∷ shortest (λ front. enough (x ∷ front)) xs)) e)

-- There is such a number.
pub record Found (enough : List ℕ → Bool) (low : ℕ) (xs : List ℕ) : Type 0 where
  pub until : ℕ
  pub at : low ≤ until
  pub is : below until xs ≡ shortest enough xs
  pub enough_is : IsEnough enough until xs
  pub least : IsLeast enough low until xs

pub find_shortest : (enough : List ℕ → Bool) (low : ℕ) (xs : List ℕ) → Above low xs → Found enough low xs
find_shortest enough low [] above = record {
  until = low;
  at = omega arith;
  is = refl;
  enough_is = inr tt;
  least = λ lower ge under. absurd (let no : ⊥ = omega (arith, ge, under) in no);
}
find_shortest enough low (x ∷ xs) above = by (cases_Bool (enough [])) (find_shortest (λ front. enough (x ∷ front)) (suc x) xs above.1)
  where
    none : (n : ℕ) → n ≤ x → below n (x ∷ xs) ≡ []
    none n le = none_below n x (x ∷ xs) le ((let self : x ≤ x = omega arith in self), above.1)

    enough_here : (until : ℕ) → x < until → IsEnough (λ front. enough (x ∷ front)) until xs → IsEnough enough until (x ∷ xs)
    enough_here until past (inl is) = inl (ap enough (keeps_first until x xs past) ∙ is)
    enough_here until past (inr under) = inr (past, under)

    least_here : (until : ℕ) → enough [] ≡ false → IsLeast (λ front. enough (x ∷ front)) (suc x) until xs → (lower : ℕ) → lower < until → (x < lower) ⊎ (lower ≤ x)
        → enough (below lower (x ∷ xs)) ≡ false
    least_here until e least lower under (inl more) = ap enough (keeps_first lower x xs more) ∙ least lower (omega (arith, more)) under
    least_here until e least lower under (inr le) = ap enough (none lower le) ∙ e

    by : (enough [] ≡ true) ⊎ (enough [] ≡ false) → Found (λ front. enough (x ∷ front)) (suc x) xs → Found enough low (x ∷ xs)
    by (inl e) rest = record {
      until = low;
      at = omega arith;
      is = none low above.0 ∙ sym (ap (λ (b : Bool). cond b [] (x ∷ shortest (λ front. enough (x ∷ front)) xs)) e);
      enough_is = inl (ap enough (none low above.0) ∙ e);
      least = λ lower ge under. absurd (let no : ⊥ = omega (arith, ge, under) in no);
    }
    by (inr e) rest =
        let past : x < rest.until = omega (arith, rest.at) in
        record {
          until = rest.until;
          at = omega (arith, past, above.0);
          is = keeps_first rest.until x xs past ∙ ap (λ (ys : List ℕ). x ∷ ys) rest.is ∙ sym (ap (λ (b : Bool). cond b [] (x ∷ shortest (λ front. enough (x ∷ front)) xs)) e);
          enough_is = enough_here rest.until past rest.enough_is;
          least = λ lower ge under. least_here rest.until e rest.least lower under (cases_lt x lower);
        }
