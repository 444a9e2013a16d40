-- Lists of blocks in use, each once and in any order; and the pool in which exactly these are taken.
-- serves: EraseLemmas, OffLemmas, PinLostLemmas, PlaceLemmas, PoolLemmas, PutLemmas, PutStepLemmas, UnjamLemmas, UnloadLemmas, crates above
use Rattle.std.proofs.Common.{◌≡◌, ◌≢◌, ℕ, zero, suc, ◌+◌, ◌-◌, ◌≤◌, ◌==◌, Bool, true, false, List, [], ◌∷◌, ◌++◌, length, Some, All, AllPairs, refl, sym, ◌∙◌, inl, inr, arith, if◌then◌else◌, subst, ⊎_elim, length-append}
use Rattle.std.specs.Prelude.{Contains, slice_get, sum_by, ◌⊎◌}
use Rattle.std.proofs.lemmas.Bool.{cases_eq, cond-false, cond-true, eq-eqb, ne_eqb}
use Rattle.std.proofs.lemmas.List.Elements.{All-append, All-contains, Contains-append_left, Contains-append_right, Contains-append_cases, Contains-get_or, All-weaker, All-contains_itself}
use Rattle.std.proofs.lemmas.List.Sums.{sum_by-append, sum_by-cons}
use Rattle.std.proofs.lemmas.Option.{slice_get_within}
use Rattle.g_blocks.specs.Pool.{ChangesOnly, IsInArea, IsFresh, IsFree, IsTaken, HasTaken, HasGiven}
use Rattle.g_base.specs.Limits.{first_copy_block}

-- the same numbers, each equally often, in any order
abbrev pub SameUse : List ℕ → List ℕ → Type 0
SameUse xs ys = (f : ℕ → ℕ) → sum_by f xs ≡ sum_by f ys

-- how often a number occurs in a list
abbrev here : ℕ → ℕ → ℕ
here k j = if j == k then 1 else 0

abbrev times : ℕ → List ℕ → ℕ
times k xs = sum_by (here k) xs

here_yes : (k j : ℕ) → j ≡ k → here k j ≡ 1
here_yes k j same = cond-true (j == k) 1 0 (eq-eqb j k same)

here_no : (k j : ℕ) → j ≢ k → here k j ≡ 0
here_no k j other = cond-false (j == k) 1 0 (ne_eqb j k other)

contains_times : (k : ℕ) (xs : List ℕ) → Contains xs k → 1 ≤ times k xs
contains_times k [] (i, inside, is) = let no : ⊥ = omega (arith, inside) in absurd no
contains_times k (x ∷ xs) (zero, inside, is) = omega (arith, sum_by-cons (here k) x xs, here_yes k x is)
contains_times k (x ∷ xs) (suc i, inside, is) = let rest = contains_times k xs (i, omega (arith, inside), is) in omega (arith, sum_by-cons (here k) x xs, rest)

times_contains : (k : ℕ) (xs : List ℕ) → 1 ≤ times k xs → Contains xs k
times_contains k [] often = let no : ⊥ = omega (arith, often) in absurd no
times_contains k (x ∷ xs) often =
    elim (cases_eq x k) as (λ _. Contains (x ∷ xs) k) [
      | inl same ↦ (0, omega arith, same)
      | inr other ↦
          let rest : Contains xs k = times_contains k xs (omega (arith, often, sum_by-cons (here k) x xs, here_no k x other)) in
          (suc rest.0, (let inside = rest.1 in omega (arith, inside)), rest.2)
    ]

pub apart_rest : (x : ℕ) (xs : List ℕ) → AllPairs (λ j k. j ≢ k) (x ∷ xs) → AllPairs (λ j k. j ≢ k) xs
apart_rest x xs apart i j d before inside = apart (suc i) (suc j) d (omega (arith, before)) (omega (arith, inside))

apart_first : (x : ℕ) (xs : List ℕ) → AllPairs (λ j k. j ≢ k) (x ∷ xs) → Contains xs x → ⊥
apart_first x xs apart (k, inside, is) = apart 0 (suc k) x (omega arith) (omega (arith, inside)) (sym is)

apart_times : (xs : List ℕ) → AllPairs (λ j k. j ≢ k) xs → (k : ℕ) → times k xs ≤ 1
apart_times [] apart k = omega arith
apart_times (x ∷ xs) apart k =
    let rest = apart_times xs (apart_rest x xs apart) k in
    elim (cases_eq x k) as (λ _. times k (x ∷ xs) ≤ 1) [
      | inl same ↦
          elim (cases_eq (times k xs) 0) as (λ _. times k (x ∷ xs) ≤ 1) [
            | inl none ↦ omega (arith, sum_by-cons (here k) x xs, here_yes k x same, none)
            | inr some ↦ absurd (apart_first x xs apart (subst (Contains xs) (sym same) (times_contains k xs (omega (arith, some)))))
          ]
      | inr other ↦ omega (arith, sum_by-cons (here k) x xs, here_no k x other, rest)
    ]

times_apart : (xs : List ℕ) → ((k : ℕ) → times k xs ≤ 1) → AllPairs (λ j k. j ≢ k) xs
times_apart [] few i j d before inside = let no : ⊥ = omega (arith, inside) in absurd no
times_apart (x ∷ xs) few zero zero d before inside = let no : ⊥ = omega (arith, before) in absurd no
times_apart (x ∷ xs) few zero (suc j) d before inside =
    λ same.
    let there : Contains xs x = subst (Contains xs) (sym same) (Contains-get_or xs j d (omega (arith, inside))) in
    let often = contains_times x xs there in
    let most = few x in
    let no : ⊥ = omega (arith, sum_by-cons (here x) x xs, here_yes x x refl, often, most) in no
times_apart (x ∷ xs) few (suc i) zero d before inside = let no : ⊥ = omega (arith, before) in absurd no
times_apart (x ∷ xs) few (suc i) (suc j) d before inside =
    times_apart xs (λ k. let most = few k in omega (arith, sum_by-cons (here k) x xs, most)) i j d (omega (arith, before)) (omega (arith, inside))

sum_ones : (xs : List ℕ) → sum_by (λ _. 1) xs ≡ length xs
sum_ones [] = refl
sum_ones (x ∷ xs) = omega (arith, sum_by-cons (λ (_ : ℕ). 1) x xs, sum_ones xs)

pub same_back : (xs ys : List ℕ) → SameUse xs ys → SameUse ys xs
same_back xs ys same f = sym (same f)

pub same_length : (xs ys : List ℕ) → SameUse xs ys → length xs ≡ length ys
same_length xs ys same = sym (sum_ones xs) ∙ same (λ _. 1) ∙ sum_ones ys

pub same_contains : (xs ys : List ℕ) → SameUse xs ys → (k : ℕ) → Contains xs k → Contains ys k
same_contains xs ys same k there = let is = same (here k) in let often = contains_times k xs there in times_contains k ys (omega (arith, is, often))

pub same_apart : (xs ys : List ℕ) → SameUse xs ys → AllPairs (λ j k. j ≢ k) xs → AllPairs (λ j k. j ≢ k) ys
same_apart xs ys same apart = times_apart ys (λ k. let is = same (here k) in let few = apart_times xs apart k in omega (arith, is, few))

pub same_all : (P : ℕ → Type 0) (xs ys : List ℕ) → SameUse xs ys → All P xs → All P ys
same_all P xs ys same all = All-weaker (Contains ys) P (λ x there. All-contains P xs x all (same_contains ys xs (same_back xs ys same) x there)) ys (All-contains_itself ys)

pub same_append : (ws xs ys zs : List ℕ) → SameUse ws xs → SameUse ys zs → SameUse (ws ++ ys) (xs ++ zs)
same_append ws xs ys zs one other f = let p = one f in let q = other f in omega (arith, sum_by-append f ws ys, sum_by-append f xs zs, p, q)

pub same_swap : (xs ys : List ℕ) → SameUse (xs ++ ys) (ys ++ xs)
same_swap xs ys f = omega (arith, sum_by-append f xs ys, sum_by-append f ys xs)

-- parts of a list
pub left_all : (P : ℕ → Type 0) (xs ys : List ℕ) → All P (xs ++ ys) → All P xs
left_all P xs ys all = All-weaker (Contains xs) P (λ x there. All-contains P (xs ++ ys) x all (Contains-append_left xs ys x there)) xs (All-contains_itself xs)

pub right_all : (P : ℕ → Type 0) (xs ys : List ℕ) → All P (xs ++ ys) → All P ys
right_all P xs ys all = All-weaker (Contains ys) P (λ x there. All-contains P (xs ++ ys) x all (Contains-append_right xs ys x there)) ys (All-contains_itself ys)

pub left_apart : (xs ys : List ℕ) → AllPairs (λ j k. j ≢ k) (xs ++ ys) → AllPairs (λ j k. j ≢ k) xs
left_apart xs ys apart = times_apart xs (λ k. let few = apart_times (xs ++ ys) apart k in omega (arith, few, sum_by-append (here k) xs ys))

pub right_apart : (xs ys : List ℕ) → AllPairs (λ j k. j ≢ k) (xs ++ ys) → AllPairs (λ j k. j ≢ k) ys
right_apart xs ys apart = times_apart ys (λ k. let few = apart_times (xs ++ ys) apart k in omega (arith, few, sum_by-append (here k) xs ys))

pub parts_apart : (xs ys : List ℕ) (k : ℕ) → AllPairs (λ j k. j ≢ k) (xs ++ ys) → Contains xs k → Contains ys k → ⊥
parts_apart xs ys k apart one other =
    let few = apart_times (xs ++ ys) apart k in let p = contains_times k xs one in let q = contains_times k ys other in
    (let no : ⊥ = omega (arith, few, p, q, sum_by-append (here k) xs ys) in no)

pub both_apart : (xs ys : List ℕ) → AllPairs (λ j k. j ≢ k) xs → AllPairs (λ j k. j ≢ k) ys → ((k : ℕ) → Contains xs k → Contains ys k → ⊥) → AllPairs (λ j k. j ≢ k) (xs ++ ys)
both_apart xs ys one other away = times_apart (xs ++ ys) each
  where
    each : (k : ℕ) → times k (xs ++ ys) ≤ 1
    each k =
        let p = apart_times xs one k in let q = apart_times ys other k in
        elim (cases_eq (times k xs) 0) as (λ _. times k (xs ++ ys) ≤ 1) [
          | inl none ↦ omega (arith, none, q, sum_by-append (here k) xs ys)
          | inr some ↦
              elim (cases_eq (times k ys) 0) as (λ _. times k (xs ++ ys) ≤ 1) [
                | inl none ↦ omega (arith, none, p, sum_by-append (here k) xs ys)
                | inr more ↦ absurd (away k (times_contains k xs (omega (arith, some))) (times_contains k ys (omega (arith, more))))
              ]
        ]

-- THE POOL in which exactly these are taken, each once, all in the copy area
pub record IsUsed (size : ℕ) (used : List ℕ) (pool : List Bool) : Type 0 where
  pub fresh : IsFresh size used pool
  pub area : All (IsInArea size) used
  pub apart : AllPairs (λ j k. j ≢ k) used

pub used_same : (size : ℕ) (xs ys : List ℕ) (pool : List Bool) → SameUse xs ys → IsUsed size xs pool → IsUsed size ys pool
used_same size xs ys pool same was = record {
  fresh = record {
    whole = was.fresh.whole;
    taken = same_all (IsTaken pool) xs ys same was.fresh.taken;
    free = λ block area away. was.fresh.free block area (λ there. away (same_contains xs ys same block there));
    count = (let n = same_length xs ys same in let c = was.fresh.count in omega (arith, n, c));
  };
  area = same_all (IsInArea size) xs ys same was.area;
  apart = same_apart xs ys same was.apart;
}

pub contains_or_not : (xs : List ℕ) (k : ℕ) → Contains xs k ⊎ (Contains xs k → ⊥)
contains_or_not xs k =
    elim (cases_eq (times k xs) 0) as (λ _. Contains xs k ⊎ (Contains xs k → ⊥)) [
      | inl none ↦ inr (λ there. let often = contains_times k xs there in let no : ⊥ = omega (arith, none, often) in no)
      | inr some ↦ inl (times_contains k xs (omega (arith, some)))
    ]

-- a block of none of these has the same flag
flag_away : (blocks : List ℕ) (old new : List Bool) → ChangesOnly blocks old new → (block : ℕ) → first_copy_block ≤ block → (Contains blocks block → ⊥)
    → slice_get new (block - first_copy_block) ≡ slice_get old (block - first_copy_block)
flag_away blocks old new changes block low away =
    let number : first_copy_block + (block - first_copy_block) ≡ block = omega (arith, low) in
    changes.others (block - first_copy_block) (λ there. away (subst (Contains blocks) number there))

-- FREE BLOCKS ARE TAKEN
pub used_taken : (size : ℕ) (blocks used : List ℕ) (old new : List Bool) → IsUsed size used old → AllPairs (λ j k. j ≢ k) blocks → All (IsFree old) blocks → HasTaken blocks old new
    → IsUsed size (blocks ++ used) new
used_taken size blocks used old new was apart free taken = record {
  fresh = record {
    whole = (let n = taken.changes.size in let w = was.fresh.whole in omega (arith, n, w));
    taken = All-append (IsTaken new) blocks used taken.taken (All-weaker (Contains used) (IsTaken new) still used (All-contains_itself used));
    free = λ block area away.
        let f = was.fresh.free block area (λ there. away (Contains-append_right blocks used block there)) in
        record { low = area.low; flag = flag_away blocks old new taken.changes block area.low (λ there. away (Contains-append_left blocks used block there)) ∙ f.flag };
    count = (let c = taken.count in let w = was.fresh.count in omega (arith, c, w, length-append blocks used));
  };
  area = All-append (IsInArea size) blocks used (All-weaker (IsFree old) (IsInArea size) inside blocks free) was.area;
  apart = both_apart blocks used apart was.apart away_from;
}
  where
    inside : (block : ℕ) → IsFree old block → IsInArea size block
    inside block is =
        let within = slice_get_within old (block - first_copy_block) false is.flag in
        let w = was.fresh.whole in let low = is.low in
        record { low = is.low; high = omega (arith, within, w, low) }

    away_from : (k : ℕ) → Contains blocks k → Contains used k → ⊥
    away_from k one other =
        let f = All-contains (IsFree old) blocks k free one in
        let t = All-contains (IsTaken old) used k was.fresh.taken other in
        (let a : slice_get old (k - first_copy_block) ≡ Some false = f.flag in let b : slice_get old (k - first_copy_block) ≡ Some true = t.flag in let no : ⊥ = cc in no)

    still : (k : ℕ) → Contains used k → IsTaken new k
    still k there =
        let t = All-contains (IsTaken old) used k was.fresh.taken there in
        record { low = t.low; flag = flag_away blocks old new taken.changes k t.low (λ one. away_from k one there) ∙ t.flag }

-- USED BLOCKS ARE GIVEN BACK
pub used_given : (size : ℕ) (blocks used : List ℕ) (old new : List Bool) → IsUsed size (blocks ++ used) old → HasGiven blocks old new → IsUsed size used new
used_given size blocks used old new was given = record {
  fresh = record {
    whole = (let n = given.changes.size in let w = was.fresh.whole in omega (arith, n, w));
    taken = All-weaker (Contains used) (IsTaken new) still used (All-contains_itself used);
    free = λ block area away. ⊎_elim
        (λ (there : Contains blocks block). All-contains (IsFree new) blocks block given.free there)
        (λ (not_there : Contains blocks block → ⊥).
        let f = was.fresh.free block area (λ there. ⊎_elim not_there away (Contains-append_cases blocks used block there)) in
        record { low = area.low; flag = flag_away blocks old new given.changes block area.low not_there ∙ f.flag })
        (contains_or_not blocks block);
    count = (let c = given.count in let w = was.fresh.count in omega (arith, c, w, length-append blocks used));
  };
  area = right_all (IsInArea size) blocks used was.area;
  apart = right_apart blocks used was.apart;
}
  where
    still : (k : ℕ) → Contains used k → IsTaken new k
    still k there =
        let t = All-contains (IsTaken old) (blocks ++ used) k was.fresh.taken (Contains-append_right blocks used k there) in
        record { low = t.low; flag = flag_away blocks old new given.changes k t.low (λ one. parts_apart blocks used k was.apart one there) ∙ t.flag }

-- what giving back requires
pub may_give : (size : ℕ) (blocks used : List ℕ) (pool : List Bool) → IsUsed size (blocks ++ used) pool → AllPairs (λ j k. j ≢ k) blocks × All (IsTaken pool) blocks
may_give size blocks used pool is = (left_apart blocks used is.apart, left_all (IsTaken pool) blocks used is.fresh.taken)
