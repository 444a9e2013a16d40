-- Look-up, change and removal of items that a test, or a number, identifies.
-- serves: crates above
use Rattle.std.proofs.Common.{◌≡◌, ℕ, zero, suc, ◌<◌, ◌≢◌, ◌==◌, List, [], ◌∷◌, ◌++◌, Bool, true, false, not, if◌then◌else◌, Option, Some, None, option_map, is_some, All, AllPairs, Contains, ◌&&◌, ◌⊎◌, find, filter, flat_map, length, get_or, map, refl, sym, ap, ◌∙◌, arith, inl, inr, eq-eqb, eqb-true}
use Rattle.std.specs.List.{list_all}
use Rattle.std.proofs.lemmas.Bool.{cases_Bool, ne_eqb}
use Rattle.std.proofs.lemmas.Bool.Decides.{eqb_tells}
use Rattle.std.proofs.lemmas.List.{get_or-map, length-map}
use Rattle.std.proofs.lemmas.List.Elements.{All-contains, All-cons, All-head, All-tail}

-- The first item with this key, if there is one.
abbrev pub at_key : {X : Type 0} → (X → ℕ) → ℕ → List X → Option X
at_key key n xs = find (λ x. n == key x) xs

-- The items, with f applied to the first one that passes the test.
abbrev pub change_first : {X : Type 0} → (X → Bool) → (X → X) → List X → List X
change_first test f [] = []
change_first test f (x ∷ xs) = if test x then f x ∷ xs else x ∷ change_first test f xs

-- The items, with f applied to the first one with this key.
abbrev pub change_key : {X : Type 0} → (X → ℕ) → ℕ → (X → X) → List X → List X
change_key key n f xs = change_first (λ x. n == key x) f xs

-- LOOK-UP BY A TEST
module _ {X : Type 0} where
  -- the item that is found passes, and is in the list
  pub find-found : (p : X → Bool) (xs : List X) (x : X) → find p xs ≡ Some x → Contains xs x × (p x ≡ true)
  find-found p [] x is = absurd (cc)
  find-found p (y ∷ ys) x is =
      elim (cases_Bool (p y)) [
        | inl here ↦
            let found : Some y ≡ Some x = rw here at is in
            let same : y ≡ x = cc in
            ((0, omega arith, same), ap p (sym same) ∙ here)
        | inr other ↦
            let ((k, within, there), passes) = find-found p ys x (rw other at is) in
            ((suc k, omega (arith, within), there), passes)
      ]

  -- what holds of all items holds of the one that is found
  pub find-all : (P : X → Type 0) (p : X → Bool) (xs : List X) (x : X) → All P xs → find p xs ≡ Some x → P x
  find-all P p xs x all is = All-contains P xs x all (find-found p xs x is).0

  -- no item passes
  pub find-none : (p : X → Bool) (xs : List X) → All (λ x. p x ≡ false) xs → find p xs ≡ None
  find-none p [] all = refl
  find-none p (x ∷ xs) all = rw (All-head (λ (y : X). p y ≡ false) x xs all) (find-none p xs (All-tail (λ (y : X). p y ≡ false) x xs all))

  -- some item passes
  pub find-some : (p : X → Bool) (xs : List X) (x : X) → Contains xs x → p x ≡ true → is_some (find p xs) ≡ true
  find-some p [] x (i, within, is) passes = absurd (let no : ⊥ = omega (arith, within) in no)
  find-some p (y ∷ ys) x (zero, within, is) passes = let here : p y ≡ true = ap p is ∙ passes in rw here refl
  find-some p (y ∷ ys) x (suc i, within, is) passes =
      elim (cases_Bool (p y)) [
        | inl here ↦ rw here refl
        | inr other ↦ rw other (find-some p ys x (i, omega (arith, within), is) passes)
      ]

  -- two tests that agree
  pub find-same : (p q : X → Bool) → ((x : X) → p x ≡ q x) → (xs : List X) → find p xs ≡ find q xs
  find-same p q same [] = refl
  find-same p q same (x ∷ xs) =
      elim (cases_Bool (q x)) [
        | inl here ↦ rw (same x ∙ here, here) refl
        | inr other ↦ rw (same x ∙ other, other) (find-same p q same xs)
      ]

  -- items that stand for others
  pub find-map : {Y : Type 0} (p : Y → Bool) (q : X → Bool) (f : X → Y) → ((x : X) → p (f x) ≡ q x) → (xs : List X) → find p (map f xs) ≡ option_map f (find q xs)
  find-map p q f same [] = refl
  find-map p q f same (x ∷ xs) =
      elim (cases_Bool (q x)) [
        | inl here ↦ rw (same x ∙ here, here) refl
        | inr other ↦ rw (same x ∙ other, other) (find-map p q f same xs)
      ]

  -- a change of other items
  pub find-map_other : (p : X → Bool) (f : X → X) → ((x : X) → p (f x) ≡ p x) → ((x : X) → p x ≡ true → f x ≡ x) → (xs : List X) → find p (map f xs) ≡ find p xs
  find-map_other p f keeps same [] = refl
  find-map_other p f keeps same (x ∷ xs) =
      elim (cases_Bool (p x)) [
        | inl here ↦ rw (keeps x ∙ here, here) (ap Some (same x here))
        | inr other ↦ rw (keeps x ∙ other, other) (find-map_other p f keeps same xs)
      ]

  -- items that were removed, none of which passes
  pub find-filter : (p q : X → Bool) → ((x : X) → q x ≡ false → p x ≡ false) → (xs : List X) → find p (filter q xs) ≡ find p xs
  find-filter p q gone [] = refl
  find-filter p q gone (x ∷ xs) =
      elim (cases_Bool (q x)) [
        | inl left ↦ rw left (ap (λ (o : Option X). if p x then Some x else o) (find-filter p q gone xs))
        | inr out ↦ rw (out, gone x out) (find-filter p q gone xs)
      ]

  -- all that pass were removed
  pub filter-none : (p q : X → Bool) → ((x : X) → q x ≡ true → p x ≡ false) → (xs : List X) → find p (filter q xs) ≡ None
  filter-none p q gone [] = refl
  filter-none p q gone (x ∷ xs) =
      elim (cases_Bool (q x)) [
        | inl left ↦ rw (left, gone x left) (filter-none p q gone xs)
        | inr out ↦ rw out (filter-none p q gone xs)
      ]

  -- the same of items that were removed by a test
  pub find-without : (p r : X → Bool) → ((x : X) → r x ≡ true → p x ≡ false) → (xs : List X) → find p (filter (λ x. not (r x)) xs) ≡ find p xs
  find-without p r gone xs = find-filter p (λ (x : X). not (r x)) (λ x out. gone x (taken (r x) out)) xs
    where
      taken : (b : Bool) → not b ≡ false → b ≡ true
      taken true is = refl
      taken false is = sym is

  pub without-none : (p : X → Bool) (xs : List X) → find p (filter (λ x. not (p x)) xs) ≡ None
  without-none p xs = filter-none p (λ (x : X). not (p x)) (λ x is. left (p x) is) xs
    where
      left : (b : Bool) → not b ≡ true → b ≡ false
      left true is = sym is
      left false is = refl

  -- nothing passes, so nothing is removed
  pub filter-absent : (p : X → Bool) (xs : List X) → find p xs ≡ None → filter (λ x. not (p x)) xs ≡ xs
  filter-absent p [] none = refl
  filter-absent p (x ∷ xs) none =
      elim (cases_Bool (p x)) [
        | inl here ↦ let found : Some x ≡ None = rw here at none in absurd (cc)
        | inr other ↦ rw other (ap (λ (ys : List X). x ∷ ys) (filter-absent p xs (rw other at none)))
      ]

-- THE FIRST ITEM THAT PASSES, CHANGED
module _ {X : Type 0} (p : X → Bool) (f : X → X) where
  -- the changed item is found
  pub find-change : ((x : X) → p (f x) ≡ p x) → (xs : List X) → find p (change_first p f xs) ≡ option_map f (find p xs)
  find-change keeps [] = refl
  find-change keeps (x ∷ xs) =
      elim (cases_Bool (p x)) [
        | inl here ↦ rw (here, keeps x ∙ here) refl
        | inr other ↦ rw (other, other) (find-change keeps xs)
      ]

  -- another item is found as before
  pub find-change_other : (q : X → Bool) → ((x : X) → p x ≡ true → q x ≡ false) → ((x : X) → q (f x) ≡ q x) → (xs : List X) → find q (change_first p f xs) ≡ find q xs
  find-change_other q apart keeps [] = refl
  find-change_other q apart keeps (x ∷ xs) =
      elim (cases_Bool (p x)) [
        | inl here ↦ rw (here, keeps x ∙ apart x here, apart x here) refl
        | inr other ↦ rw other (ap (λ (o : Option X). if q x then Some x else o) (find-change_other q apart keeps xs))
      ]

  -- what the change preserves of an item is the same of the one that is found
  pub find-change_seen : {Y : Type 0} (q : X → Bool) (see : Option X → Y) → ((x : X) → q (f x) ≡ q x) → ((x : X) → see (Some (f x)) ≡ see (Some x)) → (xs : List X)
      → see (find q (change_first p f xs)) ≡ see (find q xs)
  find-change_seen q see keeps same [] = refl
  find-change_seen q see keeps same (x ∷ xs) =
      elim (cases_Bool (p x)) [
        | inl here ↦
            elim (cases_Bool (q x)) [
              | inl at ↦ rw (here, keeps x ∙ at, at) (same x)
              | inr past ↦ rw (here, keeps x ∙ past, past) refl
            ]
        | inr other ↦
            elim (cases_Bool (q x)) [
              | inl at ↦ rw (other, at) refl
              | inr past ↦ rw (other, past) (find-change_seen q see keeps same xs)
            ]
      ]

  -- nothing passes
  pub change-none : (xs : List X) → find p xs ≡ None → change_first p f xs ≡ xs
  change-none [] none = refl
  change-none (x ∷ xs) none =
      elim (cases_Bool (p x)) [
        | inl here ↦ let found : Some x ≡ None = rw here at none in absurd (cc)
        | inr other ↦ rw other (ap (λ (ys : List X). x ∷ ys) (change-none xs (rw other at none)))
      ]

  -- the item that is found stays the same
  pub change-same : (xs : List X) → ((x : X) → find p xs ≡ Some x → f x ≡ x) → change_first p f xs ≡ xs
  change-same [] same = refl
  change-same (x ∷ xs) same =
      elim (cases_Bool (p x)) [
        | inl here ↦ rw here (ap (λ (y : X). y ∷ xs) (same x (rw here refl)))
        | inr other ↦ rw other (ap (λ (ys : List X). x ∷ ys) (change-same xs (λ y is. same y (rw other is))))
      ]

  -- a change, and then another one
  pub change-twice : (g h : X → X) → ((x : X) → p (f x) ≡ p x) → ((x : X) → g (f x) ≡ h x) → (xs : List X) → change_first p g (change_first p f xs) ≡ change_first p h xs
  change-twice g h keeps same [] = refl
  change-twice g h keeps same (x ∷ xs) =
      elim (cases_Bool (p x)) [
        | inl here ↦ rw (here, keeps x ∙ here) (ap (λ (y : X). y ∷ xs) (same x))
        | inr other ↦ rw (other, other) (ap (λ (ys : List X). x ∷ ys) (change-twice g h keeps same xs))
      ]

  -- items that stand for others, and for the changed one
  pub map-change : {Y : Type 0} (q : Y → Bool) (h : Y → Y) (g : X → Y) → ((x : X) → q (g x) ≡ p x) → ((x : X) → g (f x) ≡ h (g x)) → (xs : List X)
      → map g (change_first p f xs) ≡ change_first q h (map g xs)
  map-change q h g same changes [] = refl
  map-change {Y = Y} q h g same changes (x ∷ xs) =
      elim (cases_Bool (p x)) [
        | inl here ↦ rw (here, same x ∙ here) (ap (λ (y : Y). y ∷ map g xs) (changes x))
        | inr other ↦ rw (other, same x ∙ other) (ap (λ (ys : List Y). g x ∷ ys) (map-change q h g same changes xs))
      ]

  -- a part that the change preserves
  pub map-change_same : {Y : Type 0} (part : X → Y) → ((x : X) → part (f x) ≡ part x) → (xs : List X) → map part (change_first p f xs) ≡ map part xs
  map-change_same part same [] = refl
  map-change_same {Y = Y} part same (x ∷ xs) =
      elim (cases_Bool (p x)) [
        | inl here ↦ rw here (ap (λ (y : Y). y ∷ map part xs) (same x))
        | inr other ↦ rw other (ap (λ (ys : List Y). part x ∷ ys) (map-change_same part same xs))
      ]

  pub flat_map-change : {Y : Type 0} (parts : X → List Y) → ((x : X) → parts (f x) ≡ parts x) → (xs : List X) → flat_map parts (change_first p f xs) ≡ flat_map parts xs
  flat_map-change parts same [] = refl
  flat_map-change {Y = Y} parts same (x ∷ xs) =
      elim (cases_Bool (p x)) [
        | inl here ↦ rw here (ap (λ (ys : List Y). ys ++ flat_map parts xs) (same x))
        | inr other ↦ rw other (ap (λ (ys : List Y). parts x ++ ys) (flat_map-change parts same xs))
      ]

  -- what holds of all items, and of the changed one
  pub All-change : {Y : Type 0} (P : Y → Type 0) (g : X → Y) → ((x : X) → P (g x) → P (g (f x))) → (xs : List X) → All P (map g xs) → All P (map g (change_first p f xs))
  All-change P g keeps [] all = all
  All-change P g keeps (x ∷ xs) all =
      elim (cases_Bool (p x)) [
        | inl here ↦ rw here (All-cons P (g (f x)) (map g xs) (keeps x (All-head P (g x) (map g xs) all)) (All-tail P (g x) (map g xs) all))
        | inr other ↦ rw other (All-cons P (g x) (map g (change_first p f xs)) (All-head P (g x) (map g xs) all) (All-change P g keeps xs (All-tail P (g x) (map g xs) all)))
      ]

  -- a test of all items that the change preserves
  pub list_all-change : (q : X → Bool) → ((x : X) → q (f x) ≡ q x) → (xs : List X) → list_all q (change_first p f xs) ≡ list_all q xs
  list_all-change q same [] = refl
  list_all-change q same (x ∷ xs) =
      elim (cases_Bool (p x)) [
        | inl here ↦ rw here (ap (λ (b : Bool). b && list_all q xs) (same x))
        | inr other ↦ rw other (ap (λ (b : Bool). q x && b) (list_all-change q same xs))
      ]

-- ITEMS BY KEY
-- No later item has the key of an earlier one.
abbrev pub AreApart : {X : Type 0} → (X → ℕ) → List X → Type 0
AreApart key [] = Unit {0}
AreApart {X} key (x ∷ xs) = ((y : X) → Contains xs y → key y ≢ key x) × AreApart key xs

module _ {X : Type 0} (key : X → ℕ) where
  -- the item that is found has the key
  pub at_key-found : (n : ℕ) (xs : List X) (x : X) → at_key key n xs ≡ Some x → Contains xs x × (key x ≡ n)
  at_key-found n xs x is =
      let found = find-found (λ (y : X). n == key y) xs x is in
      (found.0, sym (eqb-true n (key x) found.1))

  -- no item has the key
  pub at_key-none : (n : ℕ) (xs : List X) → All (λ x. key x ≢ n) xs → at_key key n xs ≡ None
  at_key-none n xs all = find-none (λ (x : X). n == key x) xs (λ k d within. ne_eqb n (key (get_or xs k d)) (λ same. all k d within (sym same)))

  -- an item is found by its own key
  pub at_key-itself : (xs : List X) (x : X) → AreApart key xs → Contains xs x → at_key key (key x) xs ≡ Some x
  at_key-itself [] x apart (i, within, is) = absurd (let no : ⊥ = omega (arith, within) in no)
  at_key-itself (y ∷ ys) x (here, apart) (zero, within, is) = rw (eq-eqb (key x) (key y) (ap key (sym is))) (ap Some is)
  at_key-itself (y ∷ ys) x (here, apart) (suc i, within, is) =
      rw (ne_eqb (key x) (key y) (here x (i, omega (arith, within), is))) (at_key-itself ys x apart (i, omega (arith, within), is))

  -- the items of other keys are found as before
  pub at_key-other : (n m : ℕ) (f : X → X) → ((x : X) → key (f x) ≡ key x) → (n ≡ m → ⊥) → (xs : List X) → at_key key m (change_key key n f xs) ≡ at_key key m xs
  at_key-other n m f keeps apart xs =
      find-change_other (λ (x : X). n == key x) f (λ (x : X). m == key x)
      (λ x is. ne_eqb m (key x) (λ same. apart (eqb-true n (key x) is ∙ sym same)))
      (λ x. ap (λ (k : ℕ). m == k) (keeps x)) xs

  -- a change of items that stand for others, as a change of each
  pub change_key-each : {Y : Type 0} (n : ℕ) (f : X → X) (g h : Y → X) → ((y : Y) → key (g y) ≡ n → f (g y) ≡ h y) → ((y : Y) → key (g y) ≢ n → g y ≡ h y) → (ys : List Y)
      → AreApart (λ (y : Y). key (g y)) ys → change_key key n f (map g ys) ≡ map h ys
  change_key-each n f g h this others [] apart = refl
  change_key-each {Y = Y} n f g h this others (y ∷ ys) (here, apart) =
      elim (eqb_tells n (key (g y))) [
        | inl e ↦ rw (e.0, this y (sym e.1), each ys (λ z there same. here z there (same ∙ e.1))) refl
        | inr e ↦ rw (e.0, others y (λ same. e.1 (sym same))) (ap (λ (xs : List X). h y ∷ xs) (change_key-each n f g h this others ys apart))
      ]
    where
      each : (zs : List Y) → ((z : Y) → Contains zs z → key (g z) ≢ n) → map g zs ≡ map h zs
      each [] none = refl
      each (z ∷ zs) none = rw (others z (none z (0, omega arith, refl)), each zs (λ x (i, within, is). none x (suc i, omega (arith, within), is))) refl

  pub change_key-map : (n : ℕ) (f h : X → X) → ((x : X) → key x ≡ n → f x ≡ h x) → ((x : X) → key x ≢ n → x ≡ h x) → (xs : List X) → AreApart key xs → change_key key n f xs ≡ map h xs
  change_key-map n f h this others xs apart = ap (change_key key n f) (sym (all_same xs)) ∙ change_key-each n f (λ (x : X). x) h this others xs apart
    where
      all_same : (ys : List X) → map (λ (y : X). y) ys ≡ ys
      all_same [] = refl
      all_same (y ∷ ys) = ap (λ (zs : List X). y ∷ zs) (all_same ys)

  -- an item of a changed list is the changed one, or one of another key
  abbrev IsChanged : ℕ → (X → X) → List X → X → Type 0
  IsChanged n f xs y = ((x : X) × (at_key key n xs ≡ Some x) × (f x ≡ y)) ⊎ (Contains xs y × (key y ≢ n))

  pub change_key-contains : (n : ℕ) (f : X → X) (xs : List X) (y : X) → AreApart key xs → Contains (change_key key n f xs) y
      → ((x : X) × (at_key key n xs ≡ Some x) × (f x ≡ y)) ⊎ (Contains xs y × (key y ≢ n))
  change_key-contains n f [] y apart (i, within, is) = absurd (let no : ⊥ = omega (arith, within) in no)
  change_key-contains n f (x ∷ xs) y (here, apart) there =
      elim (eqb_tells n (key x)) [
        | inl e ↦ first e.1 (rw e.0 at there) (rw e.0 refl)
        | inr e ↦ later e.1 (rw e.0 at there) (λ z is. rw e.0 is) (change_key-contains n f xs y apart)
      ]
    where
      first : n ≡ key x → Contains (f x ∷ xs) y → at_key key n (x ∷ xs) ≡ Some x → IsChanged n f (x ∷ xs) y
      first named (zero, within, is) found = inl (x, found, is)
      first named (suc i, within, is) found = inr ((suc i, within, is), λ same. here y (i, omega (arith, within), is) (same ∙ named))

      later : (n ≡ key x → ⊥) → Contains (x ∷ change_key key n f xs) y → ((z : X) → at_key key n xs ≡ Some z → at_key key n (x ∷ xs) ≡ Some z)
          → (Contains (change_key key n f xs) y → IsChanged n f xs y) → IsChanged n f (x ∷ xs) y
      later off (zero, within, is) found rest = inr ((0, omega arith, is), λ same. off (sym same ∙ ap key (sym is)))
      later off (suc i, within, is) found rest =
          elim (rest (i, omega (arith, within), is)) [
            | inl (z, same, made) ↦ inl (z, found z same, made)
            | inr ((j, inside, same), other) ↦ inr ((suc j, omega (arith, inside), same), other)
          ]

  -- an item of this key is in the list
  pub at_key-among : (n : ℕ) (xs : List X) → Contains (map key xs) n → (x : X) × (at_key key n xs ≡ Some x)
  at_key-among n [] (i, within, is) = absurd (let no : ⊥ = omega (arith, within) in no)
  at_key-among n (x ∷ xs) there =
      elim (eqb_tells n (key x)) [
        | inl e ↦ (x, rw e.0 refl)
        | inr e ↦ let (y, at) = at_key-among n xs (rest e.1 there) in (y, rw e.0 at)
      ]
    where
      rest : (n ≡ key x → ⊥) → Contains (key x ∷ map key xs) n → Contains (map key xs) n
      rest off (zero, within, is) = absurd (off (sym is))
      rest off (suc i, within, is) = (i, omega (arith, within), is)

  -- keys that differ in pairs, or increase, are apart
  pub AreApart-pairs : (xs : List X) → AllPairs (λ x y. key x ≢ key y) xs → AreApart key xs
  AreApart-pairs [] all = tt
  AreApart-pairs (x ∷ xs) all = (
    (λ y (i, within, is) same. all 0 (suc i) y (omega arith) (omega (arith, within)) (sym same ∙ ap key (sym is))),
    AreApart-pairs xs (λ i j d low high. all (suc i) (suc j) d (omega (arith, low)) (omega (arith, high))),
  )

  pub AreApart-rising : (xs : List X) → AllPairs (λ m n. m < n) (map key xs) → AreApart key xs
  AreApart-rising xs all =
      AreApart-pairs xs
      (λ i j d low high same.
      let long : length (map key xs) ≡ length xs = length-map xs key in
      let less : get_or (map key xs) i 0 < get_or (map key xs) j 0 = all i j 0 low (omega (arith, long, high)) in
      let first : get_or (map key xs) i 0 ≡ key (get_or xs i d) = get_or-map key xs i d 0 (omega (arith, low, high)) in
      let second : get_or (map key xs) j 0 ≡ key (get_or xs j d) = get_or-map key xs j d 0 high in
      (let no : ⊥ = omega (arith, less, first, second, same) in no))

-- AN ITEM IN PLACE OF THOSE OF ITS KEY
module _ {X : Type 0} (key : X → ℕ) (x : X) where
  abbrev put : X → X
  put y = if key y == key x then x else y

  pub find-put : (ys : List X) → find (λ y. key y == key x) (map (λ y. if key y == key x then x else y) ys) ≡ option_map (λ y. x) (find (λ y. key y == key x) ys)
  find-put [] = refl
  find-put (y ∷ ys) =
      elim (cases_Bool (key y == key x)) [
        | inl here ↦ rw (here, eq-eqb (key x) (key x) refl) refl
        | inr other ↦ rw (other, other) (find-put ys)
      ]

  pub find-put_other : (n : ℕ) → (key x == n) ≡ false → (ys : List X) → find (λ y. key y == n) (map (λ y. if key y == key x then x else y) ys) ≡ find (λ y. key y == n) ys
  find-put_other n apart ys = find-map_other (λ (y : X). key y == n) put keeps same ys
    where
      keeps : (y : X) → (key (put y) == n) ≡ (key y == n)
      keeps y =
          elim (eqb_tells (key y) (key x)) [
            | inl h ↦ rw h.0 (ap (λ (k : ℕ). k == n) (sym h.1))
            | inr h ↦ rw h.0 refl
          ]

      same : (y : X) → (key y == n) ≡ true → put y ≡ y
      same y is = rw (ne_eqb (key y) (key x) (λ e. let no : true ≡ false = sym is ∙ ap (λ (k : ℕ). k == n) e ∙ apart in (let never : ⊥ = cc in never))) refl

  pub put-none : (ys : List X) → find (λ y. key y == key x) ys ≡ None → map (λ y. if key y == key x then x else y) ys ≡ ys
  put-none [] none = refl
  put-none (y ∷ ys) none =
      elim (cases_Bool (key y == key x)) [
        | inl here ↦ let found : Some y ≡ None = rw here at none in absurd (cc)
        | inr other ↦ rw other (ap (λ (zs : List X). y ∷ zs) (put-none ys (rw other at none)))
      ]
