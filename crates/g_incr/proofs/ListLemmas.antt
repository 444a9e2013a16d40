-- Lists, and the items at their positions.
-- serves: read_blocks (fewer), read_dump (read, some), read_mark (again, found), records_in (none), DumpLemmas, PieceLemmas, RecordsLemmas, and 3 more
use Rattle.std.specs.Prelude.{IfNone, IfSome, map}
use Rattle.std.proofs.Common.{◌≡◌, ◌⊎◌, inl, inr, ℕ, zero, suc, ◌+◌, ◌<◌, ◌≤◌, List, [], ◌∷◌, ◌++◌, length, take, drop, get_or, Option, Some, None, refl, sym, ◌∙◌, ap, arith, slice_get, subst}

pub get_front : {X : Type 0} (xs ys : List X) (i : ℕ) (x : X) → slice_get xs i ≡ Some x → slice_get (xs ++ ys) i ≡ Some x
get_front [] ys i x is = absurd (let no : ⊥ = cc in no)
get_front (z ∷ xs) ys zero x is = is
get_front (z ∷ xs) ys (suc i) x is = get_front xs ys i x is

pub get_behind : {X : Type 0} (xs ys : List X) (i : ℕ) → slice_get (xs ++ ys) (length xs + i) ≡ slice_get ys i
get_behind [] ys i = ap (slice_get ys) (let sum : 0 + i ≡ i = omega arith in sum)
get_behind (z ∷ xs) ys i = ap (slice_get (z ∷ (xs ++ ys))) (let sum : length (z ∷ xs) + i ≡ suc (length xs + i) = omega arith in sum) ∙ get_behind xs ys i

pub get_seam : {X : Type 0} (xs : List X) (x : X) (ys : List X) → slice_get (xs ++ (x ∷ ys)) (length xs) ≡ Some x
get_seam xs x ys = ap (slice_get (xs ++ (x ∷ ys))) (let sum : length xs ≡ length xs + 0 = omega arith in sum) ∙ get_behind xs (x ∷ ys) 0

pub split_at : {X : Type 0} (xs : List X) (i : ℕ) (x : X) → i < length xs → x ≡ get_or xs i x → xs ≡ take i xs ++ (x ∷ drop (i + 1) xs)
split_at [] i x within is = absurd (let no : ⊥ = omega arith in no)
split_at (y ∷ ys) zero x within is = ap (λ z. z ∷ ys) (sym is)
split_at {X = X} (y ∷ ys) (suc i) x within is =
    let next : suc i + 1 ≡ suc (i + 1) = omega arith in
    ap (λ (l : List X). y ∷ l) (split_at ys i x (omega (arith, within)) is) ∙ ap (λ (n : ℕ). y ∷ (take i ys ++ (x ∷ drop n (y ∷ ys)))) (sym next)

pub get_drop : {X : Type 0} (n : ℕ) (xs : List X) (i : ℕ) → slice_get (drop n xs) i ≡ slice_get xs (n + i)
get_drop zero xs i = ap (slice_get xs) (let sum : i ≡ 0 + i = omega arith in sum)
get_drop (suc n) [] i = refl
get_drop (suc n) (y ∷ ys) i = get_drop n ys i ∙ ap (slice_get (y ∷ ys)) (let sum : suc (n + i) ≡ suc n + i = omega arith in sum)

pub none_within : {X : Type 0} (xs : List X) (i : ℕ) → slice_get xs i ≡ None → length xs ≤ i
none_within [] i is = omega arith
none_within (y ∷ ys) zero is = absurd (let no : ⊥ = cc in no)
none_within (y ∷ ys) (suc i) is = let rest = none_within ys i is in omega arith

pub get_some : {X : Type 0} (xs : List X) (i : ℕ) → i < length xs → (x : X) × (slice_get xs i ≡ Some x)
get_some [] i within = absurd (let no : ⊥ = omega arith in no)
get_some (y ∷ ys) zero within = (y, refl)
get_some (y ∷ ys) (suc i) within = get_some ys i (omega arith)

-- The items of a list with one more appended.
pub get_push : {X : Type 0} (xs : List X) (y : X) (i : ℕ) (x : X) → slice_get (xs ++ y ∷ []) i ≡ Some x → (slice_get xs i ≡ Some x) ⊎ ((i ≡ length xs) × (x ≡ y))
get_push [] y zero x is = inr (refl, cc)
get_push [] y (suc i) x is = absurd (let no : ⊥ = cc in no)
get_push (z ∷ xs) y zero x is = inl is
get_push (z ∷ xs) y (suc i) x is = further (get_push xs y i x is)
  where
    further : (slice_get xs i ≡ Some x) ⊎ ((i ≡ length xs) × (x ≡ y)) → (slice_get (z ∷ xs) (suc i) ≡ Some x) ⊎ ((suc i ≡ length (z ∷ xs)) × (x ≡ y))
    further (inl there) = inl there
    further (inr last) = inr (ap suc last.0, last.1)

pub map_push_one : {X Y : Type 0} (f : X → Y) (xs : List X) (x : X) → map f (xs ++ x ∷ []) ≡ map f xs ++ f x ∷ []
map_push_one f [] x = refl
map_push_one {Y = Y} f (y ∷ ys) x = ap (λ (l : List Y). f y ∷ l) (map_push_one f ys x)

-- functions that agree on a list
pub same_map : {X Y : Type 0} (f g : X → Y) (xs : List X) → ((i : ℕ) (x : X) → slice_get xs i ≡ Some x → f x ≡ g x) → map f xs ≡ map g xs
same_map f g [] each = refl
same_map {Y = Y} f g (x ∷ xs) each = ap (λ (y : Y). y ∷ map f xs) (each 0 x refl) ∙ ap (λ (l : List Y). g x ∷ l) (same_map f g xs (λ i z is. each (suc i) z is))

pub get_take : {X : Type 0} (n : ℕ) (xs : List X) (i : ℕ) (x : X) → slice_get (take n xs) i ≡ Some x → slice_get xs i ≡ Some x
get_take zero xs i x is = absurd (let no : ⊥ = cc in no)
get_take (suc n) [] i x is = absurd (let no : ⊥ = cc in no)
get_take (suc n) (y ∷ ys) zero x is = is
get_take (suc n) (y ∷ ys) (suc i) x is = get_take n ys i x is

pub one_at : {X : Type 0} (k : ℕ) (xs : List X) (x : X) → slice_get xs k ≡ Some x → take 1 (drop k xs) ≡ x ∷ []
one_at zero [] x is = absurd (let no : ⊥ = cc in no)
one_at zero (y ∷ ys) x is = let same : y ≡ x = cc in ap (λ z. z ∷ []) same
one_at (suc k) [] x is = absurd (let no : ⊥ = cc in no)
one_at (suc k) (y ∷ ys) x is = one_at k ys x is

-- The meaning of a clause about an option, once the option is known.
pub at_some : {X : Type 0} (o : Option X) (x : X) (P : X → Type 0) → o ≡ Some x → IfSome o P → P x
at_some {X = X} o x P is has = subst (λ (q : Option X). IfSome q P) is has

pub at_none : {X : Type 0} (o : Option X) (P : Type 0) → o ≡ None → IfNone o P → P
at_none {X = X} o P is has = subst (λ (q : Option X). IfNone q P) is has
