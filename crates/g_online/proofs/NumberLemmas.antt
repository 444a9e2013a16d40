-- Rising numbers, and one more in its place.
-- serves: put, NoteLemmas, PutLemmas
use Rattle.std.proofs.Common.{◌≡◌, ◌⊎◌, ℕ, zero, suc, ◌+◌, ◌<◌, ◌≤◌, ◌==◌, ◌||◌, Bool, true, false, List, [], ◌∷◌, ◌++◌, length, get_or, take, drop, filter, Result, Ok, Err, IfOk, IfErr, refl, sym, ◌∙◌, ap, subst, arith, inl, inr, add-one, take-append-drop, drop-cons, if◌then◌else◌}
use Rattle.std.specs.Prelude.{All, AllPairs, nat_lt}
use Rattle.std.specs.List as list
use Rattle.std.specs.List.Sorted.{IsBinarySearchResult, IsNonDecreasingBy, IsSearchInRange, IsStrictlyIncreasing}
use Rattle.std.specs.Ordering.{nat_cmp, ordering_index}
use Rattle.std.proofs.lemmas.Bool.{cases_eq, cases_lt, eq-eqb, eqb-true, le-ltb, lt-ltb, ltb-true}
use Rattle.std.proofs.lemmas.Bool.Decides.{nat_tests}
use Rattle.std.proofs.lemmas.Cmp.{ranked}
use Rattle.std.proofs.lemmas.List.Elements.{All-append, All-cons, All-filter, All-weaker, filter_passes}
use Rattle.std.proofs.lemmas.List.Edits.{length-insert}
use Rattle.std.proofs.lemmas.List.Kept.{AllPairs-cons, AllPairs-filter, AllPairs-from_increasing}
use Rattle.g_disc_contents.specs.Contents.{has, with_number}
use Rattle.g_disc_contents.specs.Facts.{AreNumbers}

-- WHICH NUMBERS ARE AMONG THEM
or_left : (a b : Bool) → a ≡ true → (a || b) ≡ true
or_left true b is = refl
or_left false b is = let no : ⊥ = cc in absurd no

or_right : (a b : Bool) → b ≡ true → (a || b) ≡ true
or_right true b is = refl
or_right false b is = is

or_cases : (a b : Bool) → (a || b) ≡ true → (a ≡ true) ⊎ (b ≡ true)
or_cases true b is = inl refl
or_cases false b is = inr is

has_in : (b : Bool) (x m : ℕ) (ys : List ℕ) → b ≡ true → (x == m) ≡ true → has (if b then x ∷ ys else ys) m ≡ true
has_in true x m ys is same = or_left (x == m) (has ys m) same
has_in false x m ys is same = let no : ⊥ = cc in absurd no

has_keep : (b : Bool) (x m : ℕ) (ys : List ℕ) → has ys m ≡ true → has (if b then x ∷ ys else ys) m ≡ true
has_keep true x m ys is = or_right (x == m) (has ys m) is
has_keep false x m ys is = is

has_filter : (p : ℕ → Bool) (xs : List ℕ) (m : ℕ) → p m ≡ true → has xs m ≡ true → has (filter p xs) m ≡ true
has_filter p [] m pass is = is
has_filter p (x ∷ xs) m pass is = by_case (or_cases (x == m) (has xs m) is) (has_filter p xs m pass)
  where
    by_case : ((x == m) ≡ true) ⊎ (has xs m ≡ true) → (has xs m ≡ true → has (filter p xs) m ≡ true) → has (filter p (x ∷ xs)) m ≡ true
    by_case (inl here) rest = has_in (p x) x m (filter p xs) (ap p (eqb-true x m here) ∙ pass) here
    by_case (inr there) rest = has_keep (p x) x m (filter p xs) (rest there)

has_left : (xs ys : List ℕ) (m : ℕ) → has xs m ≡ true → has (xs ++ ys) m ≡ true
has_left [] ys m is = let no : ⊥ = cc in absurd no
has_left (x ∷ xs) ys m is = by_case (or_cases (x == m) (has xs m) is) (has_left xs ys m)
  where
    by_case : ((x == m) ≡ true) ⊎ (has xs m ≡ true) → (has xs m ≡ true → has (xs ++ ys) m ≡ true) → has ((x ∷ xs) ++ ys) m ≡ true
    by_case (inl here) rest = or_left (x == m) (has (xs ++ ys) m) here
    by_case (inr there) rest = or_right (x == m) (has (xs ++ ys) m) (rest there)

has_right : (xs ys : List ℕ) (m : ℕ) → has ys m ≡ true → has (xs ++ ys) m ≡ true
has_right [] ys m is = is
has_right (x ∷ xs) ys m is = or_right (x == m) (has (xs ++ ys) m) (has_right xs ys m is)

pub has_with : (n : ℕ) (xs : List ℕ) → has (with_number n xs) n ≡ true
has_with n xs = has_right (filter (λ m. nat_lt m n) xs) (n ∷ filter (λ m. nat_lt n m) xs) n (or_left (n == n) (has (filter (λ m. nat_lt n m) xs) n) (eq-eqb n n refl))

pub has_more : (n : ℕ) (xs : List ℕ) (m : ℕ) → has xs m ≡ true → has (with_number n xs) m ≡ true
has_more n xs m is = by_order (cases_lt m n)
  where
    last : n ≤ m → (n ≡ m) ⊎ (n ≡ m → ⊥) → has (with_number n xs) m ≡ true
    last high (inl same) =
        has_right (filter (λ k. nat_lt k n) xs) (n ∷ filter (λ k. nat_lt n k) xs) m (or_left (n == m) (has (filter (λ k. nat_lt n k) xs) m) (eq-eqb n m same))
    last high (inr other) =
        let above : n < m = omega arith in
        has_right (filter (λ k. nat_lt k n) xs) (n ∷ filter (λ k. nat_lt n k) xs) m
        (or_right (n == m) (has (filter (λ k. nat_lt n k) xs) m) (has_filter (λ k. nat_lt n k) xs m (lt-ltb n m above) is))

    by_order : (m < n) ⊎ (n ≤ m) → has (with_number n xs) m ≡ true
    by_order (inl below) = has_left (filter (λ k. nat_lt k n) xs) (n ∷ filter (λ k. nat_lt n k) xs) m (has_filter (λ k. nat_lt k n) xs m (lt-ltb m n below) is)
    by_order (inr high) = last high (cases_eq n m)

-- THEY RISE
first_pair : (x : ℕ) (xs : List ℕ) → AllPairs (λ a b. a < b) (x ∷ xs) → All (λ b. x < b) xs
first_pair x xs all = λ k d inside. all 0 (suc k) d (omega arith) (omega arith)

rest_pairs : (x : ℕ) (xs : List ℕ) → AllPairs (λ a b. a < b) (x ∷ xs) → AllPairs (λ a b. a < b) xs
rest_pairs x xs all = λ i j d before inside. all (suc i) (suc j) d (omega arith) (omega arith)

all_head : (P : ℕ → Type 0) (x : ℕ) (xs : List ℕ) → All P (x ∷ xs) → P x
all_head P x xs all = all 0 0 (omega arith)

all_tail : (P : ℕ → Type 0) (x : ℕ) (xs : List ℕ) → All P (x ∷ xs) → All P xs
all_tail P x xs all = λ k d inside. all (suc k) d (omega arith)

pairs_append : (n : ℕ) (xs ys : List ℕ) → AllPairs (λ a b. a < b) xs → AllPairs (λ a b. a < b) ys → All (λ x. x < n) xs → All (λ y. n ≤ y) ys → AllPairs (λ a b. a < b) (xs ++ ys)
pairs_append n [] ys first second low high = second
pairs_append n (x ∷ xs) ys first second low high =
    AllPairs-cons (λ a b. a < b) x (xs ++ ys)
    (All-append (λ b. x < b) xs ys (first_pair x xs first)
    (All-weaker (λ y. n ≤ y) (λ y. x < y) (λ y above. let below = all_head (λ z. z < n) x xs low in omega arith) ys high))
    (pairs_append n xs ys (rest_pairs x xs first) second (all_tail (λ z. z < n) x xs low) high)

all_lower : (n : ℕ) (xs : List ℕ) → All (λ m. m < n) (filter (λ m. nat_lt m n) xs)
all_lower n xs = All-weaker (λ m. nat_lt m n ≡ true) (λ m. m < n) (λ m is. ltb-true m n is) (filter (λ m. nat_lt m n) xs) (filter_passes (λ m. nat_lt m n) xs)

all_upper : (n : ℕ) (xs : List ℕ) → All (λ m. n < m) (filter (λ m. nat_lt n m) xs)
all_upper n xs = All-weaker (λ m. nat_lt n m ≡ true) (λ m. n < m) (λ m is. ltb-true n m is) (filter (λ m. nat_lt n m) xs) (filter_passes (λ m. nat_lt n m) xs)

pub with_rising : (n : ℕ) (xs : List ℕ) → IsStrictlyIncreasing xs → IsStrictlyIncreasing (with_number n xs)
with_rising n xs rising =
    let pairs = AllPairs-from_increasing xs rising in
    let upper = filter (λ m. nat_lt n m) xs in
    let all : AllPairs (λ a b. a < b) (with_number n xs) =
    pairs_append n (filter (λ m. nat_lt m n) xs) (n ∷ upper) (AllPairs-filter (λ a b. a < b) (λ m. nat_lt m n) xs pairs)
    (AllPairs-cons (λ a b. a < b) n upper (all_upper n xs) (AllPairs-filter (λ a b. a < b) (λ m. nat_lt n m) xs pairs))
    (all_lower n xs)
    (All-cons (λ y. n ≤ y) n upper (omega arith) (All-weaker (λ y. n < y) (λ y. n ≤ y) (λ y less. omega arith) upper (all_upper n xs))) in
    λ k within. all k (k + 1) 0 (omega arith) within

pub with_below : (u n : ℕ) (xs : List ℕ) → n < u → All (λ m. m < u) xs → All (λ m. m < u) (with_number n xs)
with_below u n xs less all =
    All-append (λ m. m < u) (filter (λ m. nat_lt m n) xs) (n ∷ filter (λ m. nat_lt n m) xs) (All-filter (λ m. nat_lt m n) (λ m. m < u) xs all)
    (All-cons (λ m. m < u) n (filter (λ m. nat_lt n m) xs) less (All-filter (λ m. nat_lt n m) (λ m. m < u) xs all))

pub numbers_with : (u n : ℕ) (xs : List ℕ) → n < u → AreNumbers u xs → AreNumbers u (with_number n xs)
numbers_with u n xs less are = record { rising = with_rising n xs are.rising; there = with_below u n xs less are.there }

-- AT MOST AS MANY AS THERE ARE USERS
not_below : (xs : List ℕ) → IsStrictlyIncreasing xs → (k : ℕ) → k < length xs → k ≤ get_or xs k 0
not_below xs rising zero within = omega arith
not_below xs rising (suc k) within =
    let before = not_below xs rising k (omega arith) in
    let next : get_or xs k 0 < get_or xs (k + 1) 0 = rising k (omega arith) in
    let same : get_or xs (k + 1) 0 ≡ get_or xs (suc k) 0 = ap (λ (i : ℕ). get_or xs i 0) (add-one k) in
    omega arith

pub few : (u : ℕ) (xs : List ℕ) → AreNumbers u xs → length xs ≤ u
few u [] are = omega arith
few u (x ∷ xs) are =
    let last : length xs ≤ get_or (x ∷ xs) (length xs) 0 = not_below (x ∷ xs) are.rising (length xs) (omega arith) in
    let less : get_or (x ∷ xs) (length xs) 0 < u = are.there (length xs) 0 (omega arith) in
    omega arith

-- THE PLACE of one more number
lower_none : (n : ℕ) (xs : List ℕ) → ((k : ℕ) → k < length xs → n ≤ get_or xs k 0) → filter (λ m. nat_lt m n) xs ≡ []
lower_none n [] above = refl
lower_none n (x ∷ xs) above =
    ap (λ (c : Bool). if c then x ∷ filter (λ m. nat_lt m n) xs else filter (λ m. nat_lt m n) xs) (le-ltb x n (above 0 (omega arith)))
    ∙ lower_none n xs (λ k within. above (suc k) (omega arith))

lower_take : (n : ℕ) (xs : List ℕ) (i : ℕ) → ((k : ℕ) → k < i → k < length xs → get_or xs k 0 < n) → ((k : ℕ) → i ≤ k → k < length xs → n ≤ get_or xs k 0) → filter (λ m. nat_lt m n) xs ≡ take i xs
lower_take n [] zero below above = refl
lower_take n [] (suc i) below above = refl
lower_take n (x ∷ xs) zero below above = lower_none n (x ∷ xs) (λ k within. above k (omega arith) within)
lower_take n (x ∷ xs) (suc i) below above =
    ap (λ (c : Bool). if c then x ∷ filter (λ m. nat_lt m n) xs else filter (λ m. nat_lt m n) xs) (lt-ltb x n (below 0 (omega arith) (omega arith)))
    ∙ ap (λ (ys : List ℕ). x ∷ ys) (lower_take n xs i (λ k less within. below (suc k) (omega arith) (omega arith)) (λ k le within. above (suc k) (omega arith) (omega arith)))

upper_all : (n : ℕ) (xs : List ℕ) → ((k : ℕ) → k < length xs → n < get_or xs k 0) → filter (λ m. nat_lt n m) xs ≡ xs
upper_all n [] above = refl
upper_all n (x ∷ xs) above =
    ap (λ (c : Bool). if c then x ∷ filter (λ m. nat_lt n m) xs else filter (λ m. nat_lt n m) xs) (lt-ltb n x (above 0 (omega arith)))
    ∙ ap (λ (ys : List ℕ). x ∷ ys) (upper_all n xs (λ k within. above (suc k) (omega arith)))

upper_drop : (n : ℕ) (xs : List ℕ) (i : ℕ) → ((k : ℕ) → k < i → k < length xs → get_or xs k 0 ≤ n) → ((k : ℕ) → i ≤ k → k < length xs → n < get_or xs k 0) → filter (λ m. nat_lt n m) xs ≡ drop i xs
upper_drop n [] zero below above = refl
upper_drop n [] (suc i) below above = refl
upper_drop n (x ∷ xs) zero below above = upper_all n (x ∷ xs) (λ k within. above k (omega arith) within)
upper_drop n (x ∷ xs) (suc i) below above =
    ap (λ (c : Bool). if c then x ∷ filter (λ m. nat_lt n m) xs else filter (λ m. nat_lt n m) xs) (le-ltb n x (below 0 (omega arith) (omega arith)))
    ∙ upper_drop n xs i (λ k less within. below (suc k) (omega arith) (omega arith)) (λ k le within. above (suc k) (omega arith) (omega arith))

parts_are : (n : ℕ) (xs a b : List ℕ) → filter (λ m. nat_lt m n) xs ≡ a → filter (λ m. nat_lt n m) xs ≡ b → a ++ n ∷ b ≡ with_number n xs
parts_are n xs a b lower upper = ap (λ (l : List ℕ). l ++ n ∷ b) (sym lower) ∙ ap (λ (u : List ℕ). filter (λ m. nat_lt m n) xs ++ n ∷ u) (sym upper)

compared_rise : (n : ℕ) (xs : List ℕ) → IsStrictlyIncreasing xs → IsNonDecreasingBy (λ m. ordering_index (nat_cmp m n)) xs
compared_rise n xs rising = λ i j d le within.
    let rises : get_or xs i d ≤ get_or xs j d = by_order i j d le within (cases_lt i j) in
    grind (arith, nat_tests)
  where
    by_order : (i j d : ℕ) → i ≤ j → j < length xs → (i < j) ⊎ (j ≤ i) → get_or xs i d ≤ get_or xs j d
    by_order i j d le within (inl less) = let first = AllPairs-from_increasing xs rising i j d less within in omega (arith, first)
    by_order i j d le within (inr ge) = let same : i ≡ j = omega arith in let at = ap (λ (k : ℕ). get_or xs k d) same in omega (arith, at)

-- if a search doesn't find it
pub put_absent : (n : ℕ) (xs : List ℕ) (r : Result ℕ ℕ) → IsStrictlyIncreasing xs → IsBinarySearchResult (λ m. nat_cmp m n) xs r → IfErr r (λ i. list.insert xs i n ≡ with_number n xs)
put_absent n xs (Ok place) rising found = tt
put_absent n xs (Err place) rising parted =
    let both = parted (compared_rise n xs rising) in
    let below : (k : ℕ) → k < place → get_or xs k 0 < n = λ k less. ranked _ n _ (sym (both.0 k 0 (omega arith) less)) in
    let above : (k : ℕ) → place ≤ k → k < length xs → n < get_or xs k 0 = λ k le within. ranked _ n _ (sym (both.1 k 0 le within)) in
    parts_are n xs (take place xs) (drop place xs)
    (lower_take n xs place (λ k less within. below k less) (λ k le within. let far = above k le within in omega (arith, far)))
    (upper_drop n xs place (λ k less within. let near = below k less in omega (arith, near)) above)

-- and if it does
pub put_there : (n : ℕ) (xs : List ℕ) (r : Result ℕ ℕ) → IsStrictlyIncreasing xs → IsSearchInRange r (length xs) → IsBinarySearchResult (λ m. nat_cmp m n) xs r → IfOk r (λ i. xs ≡ with_number n xs)
put_there n xs (Err place) rising within found = tt
put_there n xs (Ok place) rising within found =
    let here : get_or xs place 0 ≡ n = ranked _ n _ (sym (found 0)) in
    let pairs = AllPairs-from_increasing xs rising in
    let below : (k : ℕ) → k < place → k < length xs → get_or xs k 0 < n = λ k less inside. (let first = pairs k place 0 less within in omega (arith, first, here)) in
    let above : (k : ℕ) → suc place ≤ k → k < length xs → n < get_or xs k 0 = λ k more inside. (let next = pairs place k 0 more inside in omega (arith, next, here)) in
    sym (take-append-drop place xs) ∙ ap (λ (rest : List ℕ). take place xs ++ rest) (drop-cons xs place 0 within ∙ ap (λ (m : ℕ). m ∷ drop (suc place) xs) here)
    ∙ parts_are n xs (take place xs) (drop (suc place) xs)
    (lower_take n xs place below (λ k le inside. at_or_above k le inside (cases_lt place k) here above))
    (upper_drop n xs (suc place) (λ k less inside. at_or_below k less inside (cases_lt k place) here below) above)
  where
    at_or_above : (k : ℕ) → place ≤ k → k < length xs → (place < k) ⊎ (k ≤ place) → get_or xs place 0 ≡ n → ((k : ℕ) → suc place ≤ k → k < length xs → n < get_or xs k 0) → n ≤ get_or xs k 0
    at_or_above k le inside (inl less) here above = let far = above k (omega arith) inside in omega (arith, far)
    at_or_above k le inside (inr ge) here above = let same : place ≡ k = omega arith in let at = ap (λ (i : ℕ). get_or xs i 0) same in omega (arith, at, here)

    at_or_below : (k : ℕ) → k < suc place → k < length xs → (k < place) ⊎ (place ≤ k) → get_or xs place 0 ≡ n → ((k : ℕ) → k < place → k < length xs → get_or xs k 0 < n) → get_or xs k 0 ≤ n
    at_or_below k less inside (inl lower) here below = let near = below k lower inside in omega (arith, near)
    at_or_below k less inside (inr ge) here below = let same : k ≡ place = omega arith in let at = ap (λ (i : ℕ). get_or xs i 0) same in omega (arith, at, here)

-- the same of the list that was searched
pub absent_here : (n : ℕ) (xs items : List ℕ) (place : ℕ) → xs ≡ items → AreNumbers 63 items → IsBinarySearchResult (λ m. nat_cmp m n) xs (Err place) → list.insert items place n ≡ with_number n items
absent_here n xs items place same are found =
    subst (λ (ys : List ℕ). list.insert ys place n ≡ with_number n ys) same (put_absent n xs (Err place) (subst IsStrictlyIncreasing (sym same) are.rising) found)

pub there_here : (n : ℕ) (xs items : List ℕ) (place : ℕ) → xs ≡ items → AreNumbers 63 items → place < length xs → IsBinarySearchResult (λ m. nat_cmp m n) xs (Ok place) → items ≡ with_number n items
there_here n xs items place same are within found =
    subst (λ (ys : List ℕ). ys ≡ with_number n ys) same (put_there n xs (Ok place) (subst IsStrictlyIncreasing (sym same) are.rising) within found)

-- there is room for it
pub room_for : (n : ℕ) (xs items : List ℕ) (place : ℕ) → xs ≡ items → n < 63 → AreNumbers 63 items → place ≤ length xs → list.insert items place n ≡ with_number n items → length items < 63
room_for n xs items place same_list less are within' is =
    let within : place ≤ length items = (let long = ap length same_list in omega arith) in
    let most : length (with_number n items) ≤ 63 = few 63 (with_number n items) (numbers_with 63 n items less are) in
    let one : length (list.insert items place n) ≡ length items + 1 = length-insert items place n within in
    let same : length (list.insert items place n) ≡ length (with_number n items) = ap length is in
    omega arith
