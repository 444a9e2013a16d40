-- The versions that wait are complete, in the order of a dump, and no two of them have the same stamp.
-- serves: PinLemmas
use Rattle.std.proofs.Common.{◌≡◌, ◌≢◌, ◌⊎◌, ℕ, zero, suc, ◌<◌, ◌==◌, ◌&&◌, Bool, true, List, [], ◌∷◌, ◌++◌, get_or, nat_lt, Option, Some, None, All, AllPairs, refl, sym, ◌∙◌, ap, subst, arith, inl, inr}
use Rattle.std.specs.Prelude.{Contains, is_none}
use Rattle.std.proofs.lemmas.Bool.{and_from, and_parts, cases_eq, eq-eqb, eqb-true, lt-ltb, ltb-true}
use Rattle.std.proofs.lemmas.List.Elements.{All-append, All-contains_itself, All-filter, All-head, All-tail, All-weaker, Contains-append_left, Contains-append_right, filter_passes}
use Rattle.std.proofs.lemmas.List.Kept.{AllPairs-cons, AllPairs-filter}
use Rattle.g_entry.specs.declared.file_rec.FileRec.{FileRec}
use Rattle.g_entry.specs.declared.file_rec.TapeCopy.{TapeCopy}
use Rattle.g_tree.proofs.ListLemmas.{pairs_first, pairs_rest}
use Rattle.g_tree.proofs.RuleLemmas.{one_of_key}
use Rattle.g_online.specs.DumpedVersions.{is_waiting, waiting_below, waiting_of}
use Rattle.g_online.proofs.BesideLemmas.{contains_filter}

-- A RECORD WHOSE VERSION WAITS
pub record Waits (r : FileRec) : Type 0 where
  pub filled : 0 < r.len
  pub none : r.tape ≡ None

nothing_noted : (tape : Option TapeCopy) → is_none tape ≡ true → tape ≡ None
nothing_noted None is = refl
nothing_noted (Some copy) is = (let no : ⊥ = cc in absurd no)

waits_if : (r : FileRec) → is_waiting r ≡ true → Waits r
waits_if r is =
    let both = and_parts (nat_lt 0 r.len) (is_none r.tape) is in
    record { filled = ltb-true 0 r.len both.0; none = nothing_noted r.tape both.1 }

waits_then : (r : FileRec) → Waits r → is_waiting r ≡ true
waits_then r waits = and_from (nat_lt 0 r.len) (is_none r.tape) (lt-ltb 0 r.len waits.filled) (ap (λ (t : Option TapeCopy). is_none t) waits.none)

-- ELEMENTS of lists
pairs_append : {A : Type 0} (R : A → A → Type 0) (xs ys : List A) → AllPairs R xs → AllPairs R ys → All (λ x. All (R x) ys) xs → AllPairs R (xs ++ ys)
pairs_append R [] ys first second across = second
pairs_append R (x ∷ xs) ys first second across =
    AllPairs-cons R x (xs ++ ys) (All-append (R x) xs ys (pairs_first R x xs first) (All-head (λ y. All (R y) ys) x xs across))
    (pairs_append R xs ys (pairs_rest R x xs first) second (All-tail (λ y. All (R y) ys) x xs across))

-- THE ORDER OF A DUMP
abbrev pub Before : FileRec → FileRec → Type 0
Before r s = (r.owner < s.owner) ⊎ ((r.owner ≡ s.owner) × (r.number < s.number))

abbrev test_of : ℕ → FileRec → Bool
test_of owner r = (r.owner == owner) && is_waiting r

-- of an owner's files
owner_waits : (owner : ℕ) (files : List FileRec) → All (λ (r : FileRec). (r.owner ≡ owner) × Waits r) (waiting_of owner files)
owner_waits owner files =
    All-weaker (λ (r : FileRec). test_of owner r ≡ true) (λ (r : FileRec). (r.owner ≡ owner) × Waits r)
    (λ r passes. let both = and_parts (r.owner == owner) (is_waiting r) passes in (eqb-true r.owner owner both.0, waits_if r both.1))
    (waiting_of owner files) (filter_passes (test_of owner) files)

owner_order : (owner : ℕ) (files : List FileRec) → AllPairs (λ r s. r.number < s.number) files → AllPairs Before (waiting_of owner files)
owner_order owner files rising = λ i j d less within.
    let own = owner_waits owner files in
    inr ((own i d (omega (arith, less, within))).0 ∙ sym (own j d within).0, AllPairs-filter (λ (r : FileRec) (s : FileRec). r.number < s.number) (test_of owner) files rising i j d less within)

-- of all files
module _ (files : List FileRec) where
  pub waits_below : (n : ℕ) → All (λ (r : FileRec). (r.owner < n) × Waits r) (waiting_below n files)
  waits_below zero = λ k d within. (let no : ⊥ = omega (arith, within) in absurd no)
  waits_below (suc n) =
      let P : FileRec → Type 0 = λ r. (r.owner < suc n) × Waits r in
      All-append P (waiting_below n files) (waiting_of n files)
      (All-weaker (λ (r : FileRec). (r.owner < n) × Waits r) P (λ r both. ((let less = both.0 in omega (arith, less)), both.1)) (waiting_below n files) (waits_below n))
      (All-weaker (λ (r : FileRec). (r.owner ≡ n) × Waits r) P (λ r both. ((let same = both.0 in omega (arith, same)), both.1)) (waiting_of n files) (owner_waits n files))

  pub all_below : (P : FileRec → Type 0) (n : ℕ) → All P files → All P (waiting_below n files)
  all_below P zero all = λ k d within. (let no : ⊥ = omega (arith, within) in absurd no)
  all_below P (suc n) all = All-append P (waiting_below n files) (waiting_of n files) (all_below P n all) (All-filter (test_of n) P files all)

  pub from_below : (n : ℕ) → All (Contains files) (waiting_below n files)
  from_below n = all_below (Contains files) n (All-contains_itself files)

  pub every_below : (n : ℕ) (r : FileRec) → Contains files r → r.owner < n → Waits r → Contains (waiting_below n files) r
  every_below zero r there below waits = (let no : ⊥ = omega (arith, below) in absurd no)
  every_below (suc n) r there below waits = by_owner (cases_eq r.owner n) (every_below n r there)
    where
      by_owner : (r.owner ≡ n) ⊎ (r.owner ≡ n → ⊥) → (r.owner < n → Waits r → Contains (waiting_below n files) r) → Contains (waiting_below n files ++ waiting_of n files) r
      by_owner (inl same) rest =
          Contains-append_right (waiting_below n files) (waiting_of n files) r
          (contains_filter (test_of n) files r (and_from (r.owner == n) (is_waiting r) (eq-eqb r.owner n same) (waits_then r waits)) there)
      by_owner (inr other) rest = Contains-append_left (waiting_below n files) (waiting_of n files) r (rest (omega (arith, below, other)) waits)

  pub order_below : (n : ℕ) → AllPairs (λ r s. r.number < s.number) files → AllPairs Before (waiting_below n files)
  order_below zero rising = λ i j d less within. (let no : ⊥ = omega (arith, within) in absurd no)
  order_below (suc n) rising =
      pairs_append Before (waiting_below n files) (waiting_of n files) (order_below n rising) (owner_order n files rising)
      (All-weaker (λ (r : FileRec). (r.owner < n) × Waits r) (λ (r : FileRec). All (Before r) (waiting_of n files))
      (λ r low. All-weaker (λ (s : FileRec). (s.owner ≡ n) × Waits s) (Before r) (λ s high. inl (let less = low.0 in let same = high.0 in omega (arith, less, same))) (waiting_of n files) (owner_waits n files))
      (waiting_below n files) (waits_below n))

  -- no two have one stamp
  pub stamps_below : (n : ℕ) → AllPairs (λ r s. r.number < s.number) files → AllPairs (λ r s. r.stamp ≢ s.stamp) files → AllPairs (λ r s. r.stamp ≢ s.stamp) (waiting_below n files)
  stamps_below n rising stamps = λ i j d less within.
      let rs = waiting_below n files in
      λ same. not_before (get_or rs i d)
      (subst (Before (get_or rs i d))
      (sym (one_of_key (λ (r : FileRec). r.stamp) files (get_or rs i d) (get_or rs j d) stamps (from_below n i d (omega (arith, less, within))) (from_below n j d within) same))
      (order_below n rising i j d less within))
    where
      not_before : (r : FileRec) → Before r r → ⊥
      not_before r (inl less) = omega (arith, less)
      not_before r (inr both) = let less = both.1 in omega (arith, less)
