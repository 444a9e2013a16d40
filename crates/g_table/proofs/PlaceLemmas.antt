-- How many items a list of places holds, and each group of 32 of them.
-- serves: free (least, none, unused), iter, new, next_back (goes, steps), put, set_rec, take
use Rattle.std.proofs.Common.{◌≡◌, ℕ, zero, suc, ◌+◌, ◌*◌, ◌-◌, ◌/◌, ◌<◌, ◌≤◌, ◌⊎◌, inl, inr, List, [], ◌∷◌, ◌++◌, length, length-append, drop, take, Option, Some, None, get_or, slice_get, replicate, false, true, refl, sym, ◌∙◌, ap, subst, arith}
use Rattle.std.specs.Prelude.{is_some, slice_set}
use Rattle.std.proofs.Math.Seq.{take-set-lt}
use Rattle.std.proofs.lemmas.List.{drop-set-add, drop-set-lt, length-set, set-get_or, take-set-le}
use Rattle.std.proofs.Math.Nat.{div-add-mod}
use Rattle.std.proofs.lemmas.Nat.{mod_below}
use Rattle.std.proofs.lemmas.Option.{slice_get-get_or}
use Rattle.g_table.specs.Table.{AreCounts, AreTaken, IsTable, present, standing, standing_at}
use Rattle.g_table.proofs.TableLemmas.{Places}

-- The items of a prefix of the places, and of the rest.
pub get_front : {A : Type 0} (k : ℕ) (xs : List A) (i : ℕ) → i < k → slice_get (take k xs) i ≡ slice_get xs i
get_front zero xs i less = let no : ⊥ = omega (arith, less) in absurd no
get_front (suc k) [] i less = refl
get_front (suc k) (x ∷ xs) zero less = refl
get_front (suc k) (x ∷ xs) (suc i) less = get_front k xs i (omega (arith, less))

pub get_rest : {A : Type 0} (k : ℕ) (xs : List A) (i : ℕ) → slice_get (drop k xs) i ≡ slice_get xs (k + i)
get_rest zero xs i = ap (slice_get xs) (omega arith)
get_rest (suc k) [] i = refl
get_rest (suc k) (x ∷ xs) i = get_rest k xs i ∙ ap (slice_get (x ∷ xs)) next
  where
    next : suc (k + i) ≡ suc k + i
    next = omega arith

side : (k : ℕ) → (k < 32) ⊎ (32 ≤ k)
side k = search arith

-- NO ITEM at any place
abbrev pub nothing : (A : Type 0) → ℕ → Places A
nothing A count = replicate count None

front_none : (A : Type 0) (k count : ℕ) → length (present (take k (nothing A count))) ≡ 0
front_none A zero count = refl
front_none A (suc k) zero = refl
front_none A (suc k) (suc count) = front_none A k count

rest_none : (A : Type 0) (k count : ℕ) → drop k (nothing A count) ≡ nothing A (count - k)
rest_none A zero count = let same : count ≡ count - 0 = omega arith in ap (nothing A) same
rest_none A (suc k) zero = let same : 0 ≡ 0 - suc k = omega arith in ap (nothing A) same
rest_none A (suc k) (suc count) = let same : count - k ≡ suc count - suc k = omega arith in rest_none A k count ∙ ap (nothing A) same

none_counted : (A : Type 0) (n count : ℕ) → count ≤ 32 * n → AreCounts (replicate n 0) (nothing A count)
none_counted A zero count few = let same : count ≡ 0 = omega (arith, few) in ap (nothing A) same
none_counted A (suc n) count few = (sym (front_none A 32 count), subst (AreCounts (replicate n 0)) (sym (rest_none A 32 count)) (none_counted A n (count - 32) (omega (arith, few))))

none_present : (A : Type 0) (count : ℕ) → present (nothing A count) ≡ []
none_present A zero = refl
none_present A (suc count) = none_present A count

none_many : (A : Type 0) (count : ℕ) → length (nothing A count) ≡ count
none_many A zero = refl
none_many A (suc count) = ap (λ (n : ℕ). suc n) (none_many A count)

module _ {A : Type 0} where
  abbrev pub weight : Option A → ℕ
  weight None = 0
  weight (Some item) = 1

  first_present : (place : Option A) (places : Places A) → length (present (place ∷ places)) ≡ weight place + length (present places)
  first_present None places = omega arith
  first_present (Some item) places = omega arith

  weight_one : (place : Option A) → weight place ≤ 1
  weight_one None = omega arith
  weight_one (Some item) = omega arith

  pub present_few : (places : Places A) → length (present places) ≤ length places
  present_few [] = omega arith
  present_few (place ∷ places) =
      let rest = present_few places in
      let first = first_present place places in
      let one = weight_one place in
      omega (arith, rest, first, one)

  -- A PLACE CHANGES
  pub present_change : (places : Places A) (n : ℕ) (old new : Option A) → slice_get places n ≡ Some old
      → length (present (slice_set places n new)) + weight old ≡ length (present places) + weight new
  present_change [] n old new is = let no : ⊥ = cc in absurd no
  present_change (place ∷ places) zero old new is =
      let same : place ≡ old = cc in
      let before = first_present place places in
      let behind = first_present new places in
      let weights : weight place ≡ weight old = ap weight same in
      omega (arith, before, behind, weights)
  present_change (place ∷ places) (suc n) old new is =
      let rest = present_change places n old new is in
      let before = first_present place places in
      let behind = first_present place (slice_set places n new) in
      omega (arith, rest, before, behind)

  pub counts_change : (counts : List ℕ) (places : Places A) (n g : ℕ) (old new : Option A) (v : ℕ) → 32 * g ≤ n → n < 32 * g + 32 → g < length counts → slice_get places n ≡ Some old
      → AreCounts counts places → v + weight old ≡ get_or counts g 0 + weight new → AreCounts (slice_set counts g v) (slice_set places n new)
  counts_change [] places n g old new v low high within is are sum = let no : ⊥ = omega (arith, within) in absurd no
  counts_change (c ∷ counts) places n zero old new v low high within is are sum =
      let here : n < 32 = omega (arith, high) in
      let front = present_change (take 32 places) n old new (get_front 32 places n here ∙ is) in
      let changed : length (present (take 32 (slice_set places n new))) ≡ length (present (slice_set (take 32 places) n new)) = ap (λ (l : Places A). length (present l)) (take-set-lt 32 places n new here) in
      let was = are.0 in
      (omega (arith, front, changed, was, sum), subst (AreCounts counts) (sym (drop-set-lt 32 places n new here)) are.1)
  counts_change (c ∷ counts) places n (suc g) old new v low high within is are sum =
      let m : ℕ = n - 32 in
      let behind : n ≡ 32 + m = omega (arith, low) in
      let front : take 32 (slice_set places n new) ≡ take 32 places = take-set-le 32 places n new (omega (arith, low)) in
      let rest : drop 32 (slice_set places n new) ≡ slice_set (drop 32 places) m new = ap (λ (k : ℕ). drop 32 (slice_set places k new)) behind ∙ drop-set-add 32 places m new in
      let there : slice_get (drop 32 places) m ≡ Some old = get_rest 32 places m ∙ ap (slice_get places) (sym behind) ∙ is in (
        are.0 ∙ ap (λ (l : Places A). length (present l)) (sym front),
        subst (AreCounts (slice_set counts g v)) (sym rest) (counts_change counts (drop 32 places) m g old new v (omega (arith, low, behind)) (omega (arith, high, behind)) (omega (arith, within)) there are.1 sum),
      )

  -- All places are taken if there are as many items.
  taken_first : (place : Option A) → 1 ≤ weight place → is_some place ≡ true
  taken_first None some = let no : ⊥ = omega (arith, some) in absurd no
  taken_first (Some item) some = refl

  pub all_taken : (places : Places A) → length places ≤ length (present places) → AreTaken 0 (length places) places
  all_taken [] enough k low less = let no : ⊥ = omega (arith, less) in absurd no
  all_taken (place ∷ places) enough k low less =
      let first = first_present place places in
      let few = present_few places in
      by k low less (taken_first place (omega (arith, enough, first, few))) (all_taken places (more place enough))
    where
      more : (place : Option A) → suc (length places) ≤ length (present (place ∷ places)) → length places ≤ length (present places)
      more None enough = omega (arith, enough)
      more (Some item) enough = omega (arith, enough)

      by : (k : ℕ) → 0 ≤ k → k < suc (length places) → is_some place ≡ true → AreTaken 0 (length places) places → is_some (standing_at (place ∷ places) k) ≡ true
      by zero low less here rest = here
      by (suc k) low less here rest = rest k (omega arith) (omega (arith, less))

  pub taken_all : (places : Places A) → AreTaken 0 (length places) places → length (present places) ≡ length places
  taken_all [] taken = refl
  taken_all (None ∷ places) taken = let first : is_some (standing_at (None ∷ places) 0) ≡ true = taken 0 (omega arith) (omega arith) in let no : ⊥ = cc in absurd no
  taken_all (Some item ∷ places) taken =
      let rest = taken_all places (λ k low less. taken (suc k) (omega arith) (omega (arith, less))) in
      omega (arith, rest)

  -- FULL GROUPS
  front_few : (n : ℕ) (xs : Places A) → length (take n xs) ≤ n
  front_few zero xs = omega arith
  front_few (suc n) [] = omega arith
  front_few (suc n) (x ∷ xs) = let rest = front_few n xs in omega (arith, rest)

  pub full_taken : (counts : List ℕ) (places : Places A) (g : ℕ) → AreCounts counts places → g ≤ length counts → ((group : ℕ) → group < g → 32 ≤ get_or counts group 0) → AreTaken 0 (32 * g) places
  full_taken counts places zero are within full k low less = let no : ⊥ = omega (arith, less) in absurd no
  full_taken [] places (suc g) are within full k low less = let no : ⊥ = omega (arith, within) in absurd no
  full_taken (c ∷ counts) places (suc g) are within full k low less =
      let first = full 0 (omega arith) in
      let is = are.0 in
      let few = present_few (take 32 places) in
      let small = front_few 32 places in
      let front : AreTaken 0 (length (take 32 places)) (take 32 places) = all_taken (take 32 places) (omega (arith, first, is, small)) in
      let rest : AreTaken 0 (32 * g) (drop 32 places) = full_taken counts (drop 32 places) g are.1 (omega (arith, within)) (λ group less. full (suc group) (omega (arith, less))) in
      elim (side k) [
        | inl here ↦ subst (λ (o : Option (Option A)). is_some (standing o) ≡ true) (get_front 32 places k here) (front k (omega arith) (omega (arith, here, first, is, few)))
        | inr past ↦
            let behind : k ≡ 32 + (k - 32) = omega (arith, past) in
            subst (λ (o : Option (Option A)). is_some (standing o) ≡ true) (get_rest 32 places (k - 32) ∙ ap (slice_get places) (sym behind)) (rest (k - 32) (omega arith) (omega (arith, less, behind)))
      ]

  front_size : (n : ℕ) (xs : Places A) → n ≤ length xs → length (take n xs) ≡ n
  front_size zero xs long = refl
  front_size (suc n) [] long = let no : ⊥ = omega (arith, long) in absurd no
  front_size (suc n) (x ∷ xs) long = let rest = front_size n xs (omega (arith, long)) in omega (arith, rest)

  rest_size : (n : ℕ) (xs : Places A) → n ≤ length xs → length (drop n xs) + n ≡ length xs
  rest_size zero xs long = omega arith
  rest_size (suc n) [] long = let no : ⊥ = omega (arith, long) in absurd no
  rest_size (suc n) (x ∷ xs) long = let rest = rest_size n xs (omega (arith, long)) in omega (arith, rest)

  -- A group that isn't full has an empty place.
  pub open_gap : (counts : List ℕ) (places : Places A) (g : ℕ) → AreCounts counts places → g < length counts → get_or counts g 0 < 32 → 32 * g + 32 ≤ length places → AreTaken (32 * g) (32 * g + 32) places → ⊥
  open_gap [] places g are within free long taken = omega (arith, within)
  open_gap (c ∷ counts) places zero are within free long taken =
      let size = front_size 32 places (omega (arith, long)) in
      let front : AreTaken 0 (length (take 32 places)) (take 32 places) =
      λ k low less. subst (λ (o : Option (Option A)). is_some (standing o) ≡ true) (sym (get_front 32 places k (omega (arith, less, size)))) (taken k (omega arith) (omega (arith, less, size))) in
      let all = taken_all (take 32 places) front in
      let is = are.0 in
      omega (arith, all, is, free, size)
  open_gap (c ∷ counts) places (suc g) are within free long taken =
      let size = rest_size 32 places (omega (arith, long)) in
      let rest : AreTaken (32 * g) (32 * g + 32) (drop 32 places) =
      λ k low less. subst (λ (o : Option (Option A)). is_some (standing o) ≡ true) (sym (get_rest 32 places k)) (taken (32 + k) (omega (arith, low)) (omega (arith, less))) in
      open_gap counts (drop 32 places) g are.1 (omega (arith, within)) free (omega (arith, long, size)) rest

  -- NO ITEM at any place
  pub table_none : (places : Places A) (used : List ℕ) → places ≡ nothing A 1024 → used ≡ replicate 32 0 → IsTable places 0 used 0
  table_none places used is zeros = record {
    size = ap length is ∙ none_many A 1024;
    groups = ap length zeros;
    within = omega arith;
    behind = ap present is ∙ none_present A 1024;
    counts = subst (λ (l : Places A). AreCounts used l) (sym is) (subst (λ (c : List ℕ). AreCounts c (nothing A 1024)) (sym zeros) (none_counted A 32 1024 (omega arith)));
    all = sym (ap (λ (l : Places A). length (present l)) is ∙ ap length (none_present A 1024));
  }

  -- The places after the end are empty.
  pub later_none : (e d : ℕ) (places : Places A) → present (drop e places) ≡ [] → e ≤ d → present (drop d places) ≡ []
  later_none zero zero places none less = none
  later_none zero (suc d) [] none less = refl
  later_none zero (suc d) (None ∷ places) none less = later_none zero d places none (omega arith)
  later_none zero (suc d) (Some item ∷ places) none less = let no : ⊥ = cc in absurd no
  later_none (suc e) zero places none less = let no : ⊥ = omega (arith, less) in absurd no
  later_none (suc e) (suc d) [] none less = refl
  later_none (suc e) (suc d) (place ∷ places) none less = later_none e d places none (omega (arith, less))

  pub before_end : (e n : ℕ) (places : Places A) (item : A) → present (drop e places) ≡ [] → slice_get places n ≡ Some (Some item) → n < e
  before_end zero n [] item none there = let no : ⊥ = cc in absurd no
  before_end zero zero (None ∷ places) item none there = let no : ⊥ = cc in absurd no
  before_end zero zero (Some other ∷ places) item none there = let no : ⊥ = cc in absurd no
  before_end zero (suc n) (None ∷ places) item none there = let no = before_end zero n places item none there in omega (arith, no)
  before_end zero (suc n) (Some other ∷ places) item none there = let no : ⊥ = cc in absurd no
  before_end (suc e) n [] item none there = let no : ⊥ = cc in absurd no
  before_end (suc e) zero (place ∷ places) item none there = omega arith
  before_end (suc e) (suc n) (place ∷ places) item none there = let rest = before_end e n places item none there in omega (arith, rest)

  -- the items at the 32 places of a place's group
  group_few : (counts : List ℕ) (places : Places A) (n g : ℕ) (old : Option A) (item : A) → 32 * g ≤ n → n < 32 * g + 32 → g < length counts → slice_get places n ≡ Some old → AreCounts counts places
      → (weight old ≤ get_or counts g 0) × (get_or counts g 0 < 32 + weight old)
  group_few [] places n g old item low high within there are = let no : ⊥ = omega (arith, within) in absurd no
  group_few (c ∷ counts) places n zero old item low high within there are =
      let here : n < 32 = omega (arith, high) in
      let less = present_change (take 32 places) n old None (get_front 32 places n here ∙ there) in
      let more = present_change (take 32 places) n old (Some item) (get_front 32 places n here ∙ there) in
      let few = present_few (slice_set (take 32 places) n (Some item)) in
      let size = length-set (take 32 places) n (Some item) in
      let small = front_few 32 places in
      let is = are.0 in
      (omega (arith, less, is), omega (arith, more, few, size, small, is))
  group_few (c ∷ counts) places n (suc g) old item low high within there are =
      let m : ℕ = n - 32 in
      let behind : n ≡ 32 + m = omega (arith, low) in
      group_few counts (drop 32 places) m g old item (omega (arith, low, behind)) (omega (arith, high, behind)) (omega (arith, within)) (get_rest 32 places m ∙ ap (slice_get places) (sym behind) ∙ there) are.1

  -- WHAT IS REMEMBERED when a place changes
  module _ (places : Places A) (end : ℕ) (used : List ℕ) (count n : ℕ) (table : IsTable places end used count) (below : n < 1024) where
    group_low : 32 * (n / 32) ≤ n
    group_low = let parts = div-add-mod n 32 in omega (arith, parts)

    group_high : n < 32 * (n / 32) + 32
    group_high = let parts = div-add-mod n 32 in let rest = mod_below n 32 (omega arith) in omega (arith, parts, rest)

    group_there : n / 32 < length used
    group_there = let low = group_low in let size = table.groups in omega (arith, low, size, below)

    pub used_room : (item : A) → (let none : Option A = None in slice_get places n ≡ Some none) → get_or used (n / 32) 0 < 32
    used_room item there = (group_few used places n (n / 32) None item group_low group_high group_there there table.counts).1

    pub used_some : (item : A) → slice_get places n ≡ Some (Some item) → 0 < get_or used (n / 32) 0
    used_some item there = let few = (group_few used places n (n / 32) (Some item) item group_low group_high group_there there table.counts).0 in omega (arith, few)

    pub count_few : count ≤ 1024
    count_few = let few = present_few places in let size = table.size in let all = table.all in omega (arith, few, size, all)

    pub count_some : (item : A) → slice_get places n ≡ Some (Some item) → 1 ≤ count
    count_some item there = let change = present_change places n (Some item) None there in let all = table.all in omega (arith, change, all)

    pub table_more : (new : Places A) (used' : List ℕ) (item : A) → (let none : Option A = None in slice_get places n ≡ Some none) → new ≡ slice_set places n (Some item)
        → used' ≡ slice_set used (n / 32) (get_or used (n / 32) 0 + 1) → (count' : ℕ) → count' ≡ count + 1 → (end' : ℕ) → end ≤ end' → n < end' → end' ≤ 1024 → IsTable new end' used' count'
    table_more new used' item there is counted count' more end' past over within = record {
      size = ap length is ∙ length-set places n (Some item) ∙ table.size;
      groups = ap length counted ∙ length-set used (n / 32) (get_or used (n / 32) 0 + 1) ∙ table.groups;
      within = within;
      behind = ap (λ (l : Places A). present (drop end' l)) is ∙ ap present (drop-set-lt end' places n (Some item) over) ∙ later_none end end' places table.behind past;
      counts = subst (λ (c : List ℕ). AreCounts c new) (sym counted) (subst (AreCounts (slice_set used (n / 32) (get_or used (n / 32) 0 + 1))) (sym is)
          (counts_change used places n (n / 32) None (Some item) (get_or used (n / 32) 0 + 1) group_low group_high group_there there table.counts (omega arith)));
      all = let change = present_change places n None (Some item) there in let all = table.all in let same = ap (λ (l : Places A). length (present l)) is in omega (arith, change, all, more, same);
    }

    pub table_again : (new : Places A) (item old : A) → slice_get places n ≡ Some (Some old) → new ≡ slice_set places n (Some item) → IsTable new end used count
    table_again new item old there is =
        let over = before_end end n places old table.behind there in
        record {
          size = ap length is ∙ length-set places n (Some item) ∙ table.size;
          groups = table.groups;
          within = table.within;
          behind = ap (λ (l : Places A). present (drop end l)) is ∙ ap present (drop-set-lt end places n (Some item) over) ∙ table.behind;
          counts = subst (AreCounts used) (sym is) (subst (λ (c : List ℕ). AreCounts c (slice_set places n (Some item))) (set-get_or used (n / 32) 0)
              (counts_change used places n (n / 32) (Some old) (Some item) (get_or used (n / 32) 0) group_low group_high group_there there table.counts (omega arith)));
          all = let change = present_change places n (Some old) (Some item) there in let all = table.all in let same = ap (λ (l : Places A). length (present l)) is in omega (arith, change, all, same);
        }

    pub end_behind : (new : Places A) (old : A) → slice_get places n ≡ Some (Some old) → new ≡ slice_set places n None → present (drop end new) ≡ []
    end_behind new old there is =
        let over = before_end end n places old table.behind there in
        ap (λ (l : Places A). present (drop end l)) is ∙ ap present (drop-set-lt end places n None over) ∙ table.behind

    pub table_less : (new : Places A) (used' : List ℕ) (old : A) → slice_get places n ≡ Some (Some old) → new ≡ slice_set places n None
        → used' ≡ slice_set used (n / 32) (get_or used (n / 32) 0 - 1) → (count' : ℕ) → count' ≡ count - 1 → (end' : ℕ) → end' ≤ end → present (drop end' new) ≡ [] → IsTable new end' used' count'
    table_less new used' old there is counted count' less end' before none =
        let some = used_some old there in
        record {
          size = ap length is ∙ length-set places n None ∙ table.size;
          groups = ap length counted ∙ length-set used (n / 32) (get_or used (n / 32) 0 - 1) ∙ table.groups;
          within = let within = table.within in omega (arith, within, before);
          behind = none;
          counts = subst (λ (c : List ℕ). AreCounts c new) (sym counted) (subst (AreCounts (slice_set used (n / 32) (get_or used (n / 32) 0 - 1))) (sym is)
              (counts_change used places n (n / 32) (Some old) None (get_or used (n / 32) 0 - 1) group_low group_high group_there there table.counts (omega (arith, some))));
          all = let change = present_change places n (Some old) None there in let all = table.all in let same = ap (λ (l : Places A). length (present l)) is in omega (arith, change, all, less, same);
        }

  -- The item that was at a changed place.
  pub stood_none : (places : Places A) (n : ℕ) (was stood : Option A) → n < 1024 → length places ≡ 1024 → stood ≡ get_or places n stood → was ≡ stood → is_some was ≡ false → (let none : Option A = None in slice_get places n ≡ Some none)
  stood_none places n None stood below size there same empty = slice_get-get_or places n stood (omega (arith, below, size)) ∙ ap Some (sym there ∙ sym same)
  stood_none places n (Some item) stood below size there same empty = let no : ⊥ = cc in absurd no

  pub stood_some : (places : Places A) (n : ℕ) (was stood : Option A) → n < 1024 → length places ≡ 1024 → stood ≡ get_or places n stood → was ≡ stood → is_some was ≡ true → (item : A) × (slice_get places n ≡ Some (Some item))
  stood_some places n None stood below size there same some = let no : ⊥ = cc in absurd no
  stood_some places n (Some item) stood below size there same some = (item, slice_get-get_or places n stood (omega (arith, below, size)) ∙ ap Some (sym there ∙ sym same))

  -- THE LEAST NUMBER that no item has
  module _ (places : Places A) (end : ℕ) (used : List ℕ) (count : ℕ) (table : IsTable places end used count) (g : ℕ) (full : (group : ℕ) → group < g → 32 ≤ get_or used group 0) where
    pub free_below : (n : ℕ) → g < 32 → get_or used g 0 < 32 → n ≤ 1024 → AreTaken (32 * g) n places → n < 1024
    free_below n within free few taken =
        elim (edge n few) [
          | inl less ↦ less
          | inr all ↦
              let size = table.size in
              let groups = table.groups in
              let here : AreTaken (32 * g) (32 * g + 32) places = λ k low less. taken k low (omega (arith, less, within, all)) in
              let no : ⊥ = open_gap used places g table.counts (omega (arith, within, groups)) free (omega (arith, within, size)) here in
              absurd no
        ]
      where
        edge : (n : ℕ) → n ≤ 1024 → (n < 1024) ⊎ (n ≡ 1024)
        edge n few = search arith

    pub lower_taken : (n : ℕ) → g ≤ 32 → AreTaken (32 * g) n places → AreTaken 0 n places
    lower_taken n within taken k low less =
        let groups = table.groups in
        elim (part k) [
          | inl front ↦ full_taken used places g table.counts (omega (arith, within, groups)) full k low front
          | inr behind ↦ taken k behind less
        ]
      where
        part : (k : ℕ) → (k < 32 * g) ⊎ (32 * g ≤ k)
        part k = search arith

    pub all_used : g ≡ 32 → length (present places) ≡ 1024
    all_used is =
        let size = table.size in
        let groups = table.groups in
        let taken : AreTaken 0 (length places) places = λ k low less. full_taken used places g table.counts (omega (arith, is, groups)) full k low (omega (arith, less, size, is)) in
        taken_all places taken ∙ size

  pub front_present : (e : ℕ) (places : Places A) → present (drop e places) ≡ [] → present (take e places) ≡ present places
  front_present zero places none = sym none
  front_present (suc e) [] none = refl
  front_present (suc e) (None ∷ places) none = front_present e places none
  front_present (suc e) (Some item ∷ places) none = ap (λ (l : List A). item ∷ l) (front_present e places none)

  -- The item at the last place.
  pub back_some : (places : Places A) (item : A) → present (places ++ Some item ∷ []) ≡ present places ++ item ∷ []
  back_some [] item = refl
  back_some (None ∷ places) item = back_some places item
  back_some (Some other ∷ places) item = ap (λ (l : List A). other ∷ l) (back_some places item)

  pub back_none : (places : Places A) → (let none : Option A = None in present (places ++ none ∷ []) ≡ present places)
  back_none [] = refl
  back_none (None ∷ places) = back_none places
  back_none (Some other ∷ places) = ap (λ (l : List A). other ∷ l) (back_none places)

  pub some_within : (places : Places A) (n : ℕ) → is_some (standing_at places n) ≡ true → n < length places
  some_within [] n some = let no : ⊥ = cc in absurd no
  some_within (place ∷ places) zero some = omega arith
  some_within (place ∷ places) (suc n) some = let rest = some_within places n some in omega (arith, rest)

  pub shorter_back : (all rest : List A) (item : A) → all ≡ rest ++ item ∷ [] → length rest < length all
  shorter_back all rest item is = let many = ap length is ∙ length-append rest (item ∷ []) in omega (arith, many)

  -- The item at a place that has one.
  pub standing_some : (places : Places A) (n : ℕ) (stood : Option A) → is_some (standing_at places n) ≡ true → stood ≡ get_or places n stood → (item : A) × ((slice_get places n ≡ Some (Some item)) × (stood ≡ Some item))
  standing_some [] n stood some is = let no : ⊥ = cc in absurd no
  standing_some (None ∷ places) zero stood some is = let no : ⊥ = cc in absurd no
  standing_some (Some item ∷ places) zero stood some is = (item, (refl, is))
  standing_some (place ∷ places) (suc n) stood some is = standing_some places n stood some is
