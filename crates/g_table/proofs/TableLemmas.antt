-- Items at places by number: which is that of a number, and what the list is when a place changes.
-- serves: free (least, none, unused), get, iter, len, new, put (items, was), set_rec, take (items, was), PlaceLemmas, crates above
use Rattle.std.proofs.Common.{◌≡◌, ◌≢◌, ℕ, zero, suc, ◌+◌, ◌<◌, ◌≤◌, ◌==◌, not, List, [], ◌∷◌, ◌++◌, length, filter, find, map, drop, take, Option, Some, None, get_or, slice_get, replicate, option_map, refl, sym, ◌∙◌, ap, subst, arith, cond}
use Rattle.std.specs.Prelude.{nat_lt, slice_set}
use Rattle.std.specs.List.{AllByRecursion}
use Rattle.std.proofs.lemmas.Bool.{cond-false, cond-true, eq-eqb, le-ltb, lt-ltb, ne_eqb}
use Rattle.std.proofs.lemmas.Option.{slice_get-get_or, slice_get_past}
use Rattle.g_table.specs.Table.{item_at, listed_from, present, standing, with_item, without_item}

abbrev pub Places : Type 0 → Type 0
Places A = List (Option A)

abbrev pub Items : Type 0 → Type 0
Items A = List (ℕ × A)

module _ {A : Type 0} where
  abbrev pub ItemsAbove : ℕ → Items A → Type 0
  ItemsAbove n items = AllByRecursion (λ c. n < c.0) items

  -- the numbers at places from a number on
  pub above : (n first : ℕ) (places : Places A) → n < first → ItemsAbove n (listed_from first places)
  above n first [] less = tt
  above n first (None ∷ places) less = above n (first + 1) places (omega (arith, less))
  above n first (Some item ∷ places) less = (less, above n (first + 1) places (omega (arith, less)))

  pub listed_none : (first count : ℕ) → (let none : Places A = replicate count None in listed_from first none ≡ [])
  listed_none first zero = refl
  listed_none first (suc count) = listed_none (first + 1) count

  -- The items without their numbers, and how many they are.
  pub items_present : (first : ℕ) (places : Places A) → map (λ c. c.1) (listed_from first places) ≡ present places
  items_present first [] = refl
  items_present first (None ∷ places) = items_present (first + 1) places
  items_present first (Some item ∷ places) = ap (λ (l : List A). item ∷ l) (items_present (first + 1) places)

  pub count_present : (first : ℕ) (places : Places A) → length (listed_from first places) ≡ length (present places)
  count_present first [] = refl
  count_present first (None ∷ places) = count_present (first + 1) places
  count_present first (Some item ∷ places) = ap (λ (n : ℕ). suc n) (count_present (first + 1) places)

  -- THE ITEM OF A NUMBER
  item_here : (c : ℕ × A) (items : Items A) (n : ℕ) → c.0 ≡ n → item_at (c ∷ items) n ≡ Some c.1
  item_here c items n same = ap (λ (found : Option (ℕ × A)). option_map (λ d. d.1) found) (cond-true (c.0 == n) (Some c) (find (λ d. d.0 == n) items) (eq-eqb c.0 n same))

  item_behind : (c : ℕ × A) (items : Items A) (n : ℕ) → c.0 ≢ n → item_at (c ∷ items) n ≡ item_at items n
  item_behind c items n other = ap (λ (found : Option (ℕ × A)). option_map (λ d. d.1) found) (cond-false (c.0 == n) (Some c) (find (λ d. d.0 == n) items) (ne_eqb c.0 n other))

  item_none : (n : ℕ) (items : Items A) → ItemsAbove n items → item_at items n ≡ None
  item_none n [] greater = refl
  item_none n (c ∷ items) greater =
      let first = greater.0 in
      item_behind c items n (λ same. omega (arith, first, same)) ∙ item_none n items greater.1

  at_place : (first : ℕ) (places : Places A) (i : ℕ) → item_at (listed_from first places) (first + i) ≡ standing (slice_get places i)
  at_place first [] i = refl
  at_place first (None ∷ places) zero = item_none (first + 0) (listed_from (first + 1) places) (above (first + 0) (first + 1) places (omega arith))
  at_place first (Some item ∷ places) zero = item_here (first, item) (listed_from (first + 1) places) (first + 0) (omega arith)
  at_place first (None ∷ places) (suc i) =
      let next : first + suc i ≡ first + 1 + i = omega arith in
      ap (λ (n : ℕ). item_at (listed_from (first + 1) places) n) next ∙ at_place (first + 1) places i
  at_place first (Some item ∷ places) (suc i) =
      let next : first + suc i ≡ first + 1 + i = omega arith in
      item_behind (first, item) (listed_from (first + 1) places) (first + suc i) (λ same. omega (arith, same))
      ∙ ap (λ (n : ℕ). item_at (listed_from (first + 1) places) n) next ∙ at_place (first + 1) places i

  pub item_listed : (places : Places A) (n : ℕ) → item_at (listed_from 0 places) n ≡ standing (slice_get places n)
  item_listed places n =
      let same : n ≡ 0 + n = omega arith in
      ap (λ (m : ℕ). item_at (listed_from 0 places) m) same ∙ at_place 0 places n

  pub found_listed : (lent places : Places A) (n : ℕ) (table : Items A) (place result : Option A) → lent ≡ places → listed_from 0 places ≡ table → n < length lent → place ≡ get_or lent n place → result ≡ place
      → result ≡ item_at table n
  found_listed lent places n table place result same is within there given =
      given ∙ ap standing (sym (slice_get-get_or lent n place within ∙ ap Some (sym there))) ∙ ap (λ (l : Places A). standing (slice_get l n)) same
      ∙ sym (item_listed places n) ∙ ap (λ (t : Items A). item_at t n) is

  pub none_listed : (lent places : Places A) (n : ℕ) (table : Items A) → lent ≡ places → listed_from 0 places ≡ table → length lent ≤ n → (let none : Option A = None in none ≡ item_at table n)
  none_listed lent places n table same is past =
      ap standing (sym (slice_get_past lent n past)) ∙ ap (λ (l : Places A). standing (slice_get l n)) same
      ∙ sym (item_listed places n) ∙ ap (λ (t : Items A). item_at t n) is

  -- those of lower numbers and of greater ones
  abbrev pub lows : ℕ → Items A → Items A
  lows n items = filter (λ c. nat_lt c.0 n) items

  abbrev pub highs : ℕ → Items A → Items A
  highs n items = filter (λ c. nat_lt n c.0) items

  low_in : (n : ℕ) (c : ℕ × A) (items : Items A) → c.0 < n → lows n (c ∷ items) ≡ c ∷ lows n items
  low_in n c items less = cond-true (nat_lt c.0 n) (c ∷ lows n items) (lows n items) (lt-ltb c.0 n less)

  low_out : (n : ℕ) (c : ℕ × A) (items : Items A) → n ≤ c.0 → lows n (c ∷ items) ≡ lows n items
  low_out n c items past = cond-false (nat_lt c.0 n) (c ∷ lows n items) (lows n items) (le-ltb c.0 n past)

  high_in : (n : ℕ) (c : ℕ × A) (items : Items A) → n < c.0 → highs n (c ∷ items) ≡ c ∷ highs n items
  high_in n c items less = cond-true (nat_lt n c.0) (c ∷ highs n items) (highs n items) (lt-ltb n c.0 less)

  high_out : (n : ℕ) (c : ℕ × A) (items : Items A) → c.0 ≤ n → highs n (c ∷ items) ≡ highs n items
  high_out n c items past = cond-false (nat_lt n c.0) (c ∷ highs n items) (highs n items) (le-ltb n c.0 past)

  no_low : (n : ℕ) (items : Items A) → ItemsAbove n items → lows n items ≡ []
  no_low n [] greater = refl
  no_low n (c ∷ items) greater = let first = greater.0 in low_out n c items (omega (arith, first)) ∙ no_low n items greater.1

  all_high : (n : ℕ) (items : Items A) → ItemsAbove n items → highs n items ≡ items
  all_high n [] greater = refl
  all_high n (c ∷ items) greater = high_in n c items greater.0 ∙ ap (λ (l : Items A). c ∷ l) (all_high n items greater.1)

  -- Adding an item to others.
  pub in_front : (c : ℕ × A) (items : Items A) → ItemsAbove c.0 items → with_item c.0 c.1 items ≡ c ∷ items
  in_front c items greater = ap (λ (l : Items A). l ++ c ∷ highs c.0 items) (no_low c.0 items greater) ∙ ap (λ (l : Items A). c ∷ l) (all_high c.0 items greater)

  in_the_place : (c d : ℕ × A) (items : Items A) → c.0 ≡ d.0 → ItemsAbove c.0 items → with_item c.0 c.1 (d ∷ items) ≡ c ∷ items
  in_the_place c d items same greater =
      ap (λ (l : Items A). l ++ c ∷ highs c.0 (d ∷ items)) (low_out c.0 d items (omega (arith, same)))
      ∙ ap (λ (l : Items A). lows c.0 items ++ c ∷ l) (high_out c.0 d items (omega (arith, same)))
      ∙ in_front c items greater

  behind_one : (c d : ℕ × A) (items : Items A) → d.0 < c.0 → with_item c.0 c.1 (d ∷ items) ≡ d ∷ with_item c.0 c.1 items
  behind_one c d items less =
      ap (λ (l : Items A). l ++ c ∷ highs c.0 (d ∷ items)) (low_in c.0 d items less)
      ∙ ap (λ (l : Items A). d ∷ (lows c.0 items ++ c ∷ l)) (high_out c.0 d items (omega (arith, less)))

  put_at : (first : ℕ) (places : Places A) (i : ℕ) (item : A) → i < length places → listed_from first (slice_set places i (Some item)) ≡ with_item (first + i) item (listed_from first places)
  put_at first [] i item within = let no : ⊥ = omega (arith, within) in absurd no
  put_at first (None ∷ places) zero item within =
      let same : first ≡ first + 0 = omega arith in
      ap (λ (n : ℕ). (n, item) ∷ listed_from (first + 1) places) same
      ∙ sym (in_front (first + 0, item) (listed_from (first + 1) places) (above (first + 0) (first + 1) places (omega arith)))
  put_at first (Some old ∷ places) zero item within =
      let same : first ≡ first + 0 = omega arith in
      ap (λ (n : ℕ). (n, item) ∷ listed_from (first + 1) places) same
      ∙ sym (in_the_place (first + 0, item) (first, old) (listed_from (first + 1) places) (omega arith) (above (first + 0) (first + 1) places (omega arith)))
  put_at first (None ∷ places) (suc i) item within =
      let next : first + 1 + i ≡ first + suc i = omega arith in
      put_at (first + 1) places i item (omega (arith, within)) ∙ ap (λ (n : ℕ). with_item n item (listed_from (first + 1) places)) next
  put_at first (Some old ∷ places) (suc i) item within =
      let next : first + 1 + i ≡ first + suc i = omega arith in
      ap (λ (l : Items A). (first, old) ∷ l) (put_at (first + 1) places i item (omega (arith, within)) ∙ ap (λ (n : ℕ). with_item n item (listed_from (first + 1) places)) next)
      ∙ sym (behind_one (first + suc i, item) (first, old) (listed_from (first + 1) places) (omega arith))

  pub put_listed : (places new : Places A) (n : ℕ) (item : A) (table : Items A) → n < 1024 → length places ≡ 1024 → listed_from 0 places ≡ table → new ≡ slice_set places n (Some item)
      → listed_from 0 new ≡ with_item n item table
  put_listed places new n item table below size is changed =
      let same : 0 + n ≡ n = omega arith in
      ap (listed_from 0) changed ∙ put_at 0 places n item (omega (arith, below, size)) ∙ ap (λ (m : ℕ). with_item m item (listed_from 0 places)) same
      ∙ ap (with_item n item) is

  -- AN ITEM TAKEN OUT
  keep_all : (n : ℕ) (items : Items A) → ItemsAbove n items → without_item n items ≡ items
  keep_all n [] greater = refl
  keep_all n (c ∷ items) greater =
      let first = greater.0 in
      cond-true (not (c.0 == n)) (c ∷ without_item n items) (without_item n items) (ap not (ne_eqb c.0 n (λ same. omega (arith, first, same))))
      ∙ ap (λ (l : Items A). c ∷ l) (keep_all n items greater.1)

  take_at : (first : ℕ) (places : Places A) (i : ℕ) → listed_from first (slice_set places i None) ≡ without_item (first + i) (listed_from first places)
  take_at first [] i = refl
  take_at first (None ∷ places) zero = sym (keep_all (first + 0) (listed_from (first + 1) places) (above (first + 0) (first + 1) places (omega arith)))
  take_at first (Some item ∷ places) zero =
      let rest : Items A = listed_from (first + 1) places in
      sym (cond-false (not (first == first + 0)) ((first, item) ∷ without_item (first + 0) rest) (without_item (first + 0) rest) (ap not (eq-eqb first (first + 0) (omega arith)))
      ∙ keep_all (first + 0) rest (above (first + 0) (first + 1) places (omega arith)))
  take_at first (None ∷ places) (suc i) =
      let next : first + 1 + i ≡ first + suc i = omega arith in
      take_at (first + 1) places i ∙ ap (λ (n : ℕ). without_item n (listed_from (first + 1) places)) next
  take_at first (Some item ∷ places) (suc i) =
      let next : first + 1 + i ≡ first + suc i = omega arith in
      let rest : Items A = listed_from (first + 1) places in
      ap (λ (l : Items A). (first, item) ∷ l) (take_at (first + 1) places i ∙ ap (λ (n : ℕ). without_item n rest) next)
      ∙ sym (cond-true (not (first == first + suc i)) ((first, item) ∷ without_item (first + suc i) rest) (without_item (first + suc i) rest) (ap not (ne_eqb first (first + suc i) (λ same. omega (arith, same)))))

  pub take_listed : (places new : Places A) (n : ℕ) (table : Items A) → listed_from 0 places ≡ table → new ≡ slice_set places n None → listed_from 0 new ≡ without_item n table
  take_listed places new n table is changed =
      let same : 0 + n ≡ n = omega arith in
      ap (listed_from 0) changed ∙ take_at 0 places n ∙ ap (λ (m : ℕ). without_item m (listed_from 0 places)) same ∙ ap (without_item n) is
