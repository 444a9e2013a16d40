-- Lists: pairs of elements, filtering and mapping, and the greatest of the filtered elements.
-- serves: ChangeLemmas, CountLemmas, FaultLemmas, InUserLemmas, LawLemmas, MapLemmas, PlaceLemmas, PutLemmas, RecordLemmas, RuleLemmas, TrapLemmas, and 2 more
use Rattle.std.proofs.Common.{◌≡◌, ℕ, zero, suc, ◌+◌, ◌<◌, ◌≤◌, Bool, true, false, cond, ◌&&◌, List, [], ◌∷◌, ◌++◌, length, map, filter, fold, max, sum_by, take, drop, get_or, refl, sym, ap, ◌∙◌, arith, ◌⊎◌, inl, inr, true≢false}
use Rattle.std.specs.List.{AllPairs, All, AllByRecursion, Contains}
use Rattle.std.proofs.Math.Seq.{drop-cons}
use Rattle.std.proofs.lemmas.List.{take-append-drop}
use Rattle.std.proofs.lemmas.List.Elements.{All-head, All-tail}
use Rattle.std.proofs.lemmas.List.Sums.{sum_by-cons}

module _ {A : Type 0} where
  pub pairs_first : (S : A → A → Type 0) (x : A) (xs : List A) → AllPairs S (x ∷ xs) → All (S x) xs
  pairs_first S x xs pairs = λ k d h. pairs 0 (suc k) d (omega arith) (omega arith)

  pub pairs_rest : (S : A → A → Type 0) (x : A) (xs : List A) → AllPairs S (x ∷ xs) → AllPairs S xs
  pairs_rest S x xs pairs = λ i j d lower within. pairs (suc i) (suc j) d (omega arith) (omega arith)

  pub contains_more : (x r : A) (xs : List A) → Contains xs r → Contains (x ∷ xs) r
  contains_more x r xs (k, within, is) = (suc k, omega arith, is)

  pub contains_first : (x : A) (xs : List A) → Contains (x ∷ xs) x
  contains_first x xs = (0, omega arith, refl)

  pub contains_cases : (x r : A) (xs : List A) → Contains (x ∷ xs) r → (x ≡ r) ⊎ Contains xs r
  contains_cases x r xs (zero, within, is) = inl is
  contains_cases x r xs (suc k, within, is) = inr (k, omega arith, is)

  -- two tests that agree on the elements keep the same
  pub filter_same_on : (p q : A → Bool) (xs : List A) → All (λ x. p x ≡ q x) xs → filter p xs ≡ filter q xs
  filter_same_on p q [] all = refl
  filter_same_on p q (x ∷ xs) all =
      let rest = filter_same_on p q xs (All-tail (λ x. p x ≡ q x) x xs all) in
      ap (λ b. cond b (x ∷ filter p xs) (filter p xs)) (All-head (λ x. p x ≡ q x) x xs all) ∙ ap (λ ys. cond (q x) (x ∷ ys) ys) rest

  pub sum_same_on : (f g : A → ℕ) (xs : List A) → All (λ x. f x ≡ g x) xs → sum_by f xs ≡ sum_by g xs
  sum_same_on f g [] all = refl
  sum_same_on f g (x ∷ xs) all =
      sum_by-cons f x xs
      ∙ (λ i. All-head (λ y. f y ≡ g y) x xs all i + sum_same_on f g xs (All-tail (λ y. f y ≡ g y) x xs all) i)
      ∙ sym (sum_by-cons g x xs)

  -- A filter that selects no element.
  pub filter_none : (p : A → Bool) (xs : List A) → All (λ x. p x ≡ false) xs → filter p xs ≡ []
  filter_none p [] all = refl
  filter_none p (x ∷ xs) all =
      ap (λ b. cond b (x ∷ filter p xs) (filter p xs)) (All-head (λ x. p x ≡ false) x xs all) ∙ filter_none p xs (All-tail (λ x. p x ≡ false) x xs all)

  -- A filter that selects every element.
  pub filter_whole : (p : A → Bool) (xs : List A) → All (λ x. p x ≡ true) xs → filter p xs ≡ xs
  filter_whole p [] all = refl
  filter_whole p (x ∷ xs) all =
      ap (λ b. cond b (x ∷ filter p xs) (filter p xs)) (All-head (λ y. p y ≡ true) x xs all)
      ∙ ap (λ ys. x ∷ ys) (filter_whole p xs (All-tail (λ y. p y ≡ true) x xs all))

  -- a list around the element at a place
  pub around : (xs : List A) (n : ℕ) (d : A) → n < length xs → xs ≡ take n xs ++ get_or xs n d ∷ drop (suc n) xs
  around xs n d within = sym (take-append-drop n xs) ∙ ap (λ ys. take n xs ++ ys) (drop-cons xs n d within)

  -- The greatest number of the selected elements.
  abbrev pub greatest : (A → Bool) → (A → ℕ) → List A → ℕ
  greatest p f [] = 0
  greatest p f (x ∷ xs) = cond (p x) (max (f x) (greatest p f xs)) (greatest p f xs)

  pub fold_greatest : (p : A → Bool) (f : A → ℕ) (a : ℕ) (xs : List A) → fold max a (map f (filter p xs)) ≡ max a (greatest p f xs)
  fold_greatest p f a [] = omega arith
  fold_greatest p f a (x ∷ xs) =
      elim (p x) as (λ t. fold max a (map f (cond t (x ∷ filter p xs) (filter p xs))) ≡ max a (cond t (max (f x) (greatest p f xs)) (greatest p f xs))) [
        | true ↦ let rest = fold_greatest p f (max a (f x)) xs in omega arith
        | false ↦ fold_greatest p f a xs
      ]

  pub greatest_le : (p : A → Bool) (f : A → ℕ) (n : ℕ) (xs : List A) → All (λ x. f x ≤ n) xs → greatest p f xs ≤ n
  greatest_le p f n [] all = omega arith
  greatest_le p f n (x ∷ xs) all =
      let rest = greatest_le p f n xs (All-tail (λ y. f y ≤ n) x xs all) in
      let one : f x ≤ n = All-head (λ y. f y ≤ n) x xs all in
      elim (p x) as (λ t. cond t (max (f x) (greatest p f xs)) (greatest p f xs) ≤ n) [ true ↦ omega arith | false ↦ rest ]

module _ {A B : Type 0} where
  pub filter_of_map : (p : B → Bool) (f : A → B) (xs : List A) → filter p (map f xs) ≡ map f (filter (λ x. p (f x)) xs)
  filter_of_map p f [] = refl
  filter_of_map p f (x ∷ xs) =
      elim (p (f x)) as (λ t. cond t (f x ∷ filter p (map f xs)) (filter p (map f xs)) ≡ map f (cond t (x ∷ filter (λ y. p (f y)) xs) (filter (λ y. p (f y)) xs))) [
        | true ↦ ap (λ ys. f x ∷ ys) (filter_of_map p f xs)
        | false ↦ filter_of_map p f xs
      ]

  pub sum_of_map : (h : B → ℕ) (f : A → B) (xs : List A) → sum_by h (map f xs) ≡ sum_by (λ x. h (f x)) xs
  sum_of_map h f [] = refl
  sum_of_map h f (x ∷ xs) = sum_by-cons h (f x) (map f xs) ∙ ap (λ n. h (f x) + n) (sum_of_map h f xs) ∙ sym (sum_by-cons (λ y. h (f y)) x xs)

  pub greatest_of_map : (p : B → Bool) (h : B → ℕ) (f : A → B) (xs : List A) → greatest p h (map f xs) ≡ greatest (λ x. p (f x)) (λ x. h (f x)) xs
  greatest_of_map p h f [] = refl
  greatest_of_map p h f (x ∷ xs) = ap (λ n. cond (p (f x)) (max (h (f x)) n) n) (greatest_of_map p h f xs)

  -- two functions that agree on the elements
  pub kept_same_on : (p : A → Bool) (f g : A → B) (xs : List A) → AllByRecursion (λ x. f x ≡ g x) xs → map f (filter p xs) ≡ map g (filter p xs)
  kept_same_on p f g [] all = refl
  kept_same_on p f g (x ∷ xs) all =
      elim (p x) as (λ t. map f (cond t (x ∷ filter p xs) (filter p xs)) ≡ map g (cond t (x ∷ filter p xs) (filter p xs))) [
        | true ↦ (λ i. all.0 i ∷ kept_same_on p f g xs all.1 i)
        | false ↦ kept_same_on p f g xs all.1
      ]

pub map_of_map : {A B C : Type 0} (f : B → C) (g : A → B) (xs : List A) → map f (map g xs) ≡ map (λ x. f (g x)) xs
map_of_map f g [] = refl
map_of_map f g (x ∷ xs) = ap (λ ys. f (g x) ∷ ys) (map_of_map f g xs)

pub both_true : (a b : Bool) → (a && b) ≡ true → (a ≡ true) × (b ≡ true)
both_true true b e = (refl, e)
both_true false b e = absurd (true≢false (sym e))
