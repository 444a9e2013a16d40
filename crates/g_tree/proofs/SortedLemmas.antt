-- A sorted list of entries with different keys is that of the map that is made of them.
-- serves: listing_of
use Rattle.std.proofs.Common.{◌≡◌, ◌≢◌, ℕ, suc, ◌+◌, ◌<◌, ◌==◌, Bool, true, false, cond, List, [], ◌∷◌, length, map, filter, get_or, Option, Some, None, refl, sym, ap, subst, ◌∙◌, arith, true≢false}
use Rattle.std.specs.Ordering.{eq_by_cmp, is_lt, nat_cmp, ordering_reverse, ordering_then}
use Rattle.std.specs.declared.cmp.Ordering.{Ordering}
use Rattle.std.specs.declared.cmp.Ordering.TheVariants.{Less, Equal, Greater}
use Rattle.std.specs.Cmp.{IsTotalOrder}
use Rattle.std.specs.Option.{option_map}
use Rattle.std.specs.List.{All, AllPairs, Contains}
use Rattle.std.specs.List.Sorted.{IsPermutation, IsSorted, IsStrictlySortedBy}
use Rattle.std.specs.Map.{keys_of}
use Rattle.std.specs.FinMap.{IsAntisymmetric, entries, find, from_entries, get-from_entries, same_map}
use Rattle.std.proofs.lemmas.Bool.{eqb-true}
use Rattle.std.proofs.lemmas.List.{get_or-map, length-map}
use Rattle.std.proofs.lemmas.List.Elements.{All-map, filter_passes}
use Rattle.std.proofs.lemmas.List.Kept.{AllPairs-cons, AllPairs-filter}
use Rattle.std.proofs.lemmas.List.Sorted.{Contains-permutation, IsPermutation-keeps, IsPermutation-map, IsPermutation-sym}
use Rattle.std.proofs.lemmas.Map.Keys.{IsDistinct-IsPermutation, IsDistinct-from_apart, apart_from_distinct, sorted_from_all_adjacent}
use Rattle.std.specs.Cmp.{eq_by_cmp_equiv}
use Rattle.g_plain.proofs.Found.{apart_is}
use Rattle.g_plain.proofs.Maps.{entries-made}
use Rattle.g_entry.specs.declared.file_rec.FileRec.{FileRec}
use Rattle.g_entry.specs.Rules.{SameName}
use Rattle.g_tree.specs.declared.sorted.LocalName.{LocalName}
use Rattle.g_tree.specs.Names.{name_cmp, name_in, numbers_by_name}
use Rattle.g_tree.proofs.InUserLemmas.{name_exact, name_total}
use Rattle.g_tree.proofs.MapLemmas.{AreApart, found_itself, found_one, keyed}

pairs_of_map : {A B : Type 0} (R : B → B → Type 0) (f : A → B) (xs : List A) → AllPairs (λ x y. R (f x) (f y)) xs → AllPairs R (map f xs)
pairs_of_map R f [] all = λ i j d less within. absurd (omega (arith, within))
pairs_of_map R f (x ∷ xs) all =
    AllPairs-cons R (f x) (map f xs) (All-map (R (f x)) f xs (λ k d within. all 0 (suc k) d (omega arith) (omega (arith, within))))
    (pairs_of_map R f xs (λ i j d less within. all (suc i) (suc j) d (omega (arith, less)) (omega (arith, within))))

module _ {K X : Type 0} {R : K → K → Ordering} (o : IsTotalOrder R) (same : IsAntisymmetric R) where
  abbrev key : K × X → K
  key e = e.0

  find_entry : (q : K) (es : List (K × X)) → find R q es ≡ option_map (λ e. e.1) (find R q (keyed key es))
  find_entry q [] = refl
  find_entry q (e ∷ es) =
      elim (eq_by_cmp R q e.0) as (λ t. cond t (Some e.1) (find R q es) ≡ option_map (λ f. f.1) (cond t (Some e) (find R q (keyed key es)))) [ true ↦ refl | false ↦ find_entry q es ]

  -- Keys that differ still do in another order.
  apart_moved : (es fs : List (K × X)) → IsPermutation es fs → AreApart key es → AreApart key fs
  apart_moved es fs moved apart = λ i j d lower within equal.
      let keys = length-map fs key in
      let apart_keys = apart_from_distinct (eq_by_cmp R) (map key fs) i j (key d)
      (IsDistinct-IsPermutation (eq_by_cmp R) (eq_by_cmp_equiv o).symm (map key es) (map key fs) (IsPermutation-map key es fs moved)
      (IsDistinct-from_apart (eq_by_cmp R) (map key es)
      (λ a b k less inside. apart_is o same (get_or (map key es) a k) (get_or (map key es) b k) (pairs_of_map (λ x y. x ≢ y) key es apart a b k less inside)))) lower (omega (arith, within, keys)) in
      let first : get_or (map key fs) i (key d) ≡ key (get_or fs i d) = get_or-map key fs i d (key d) (omega (arith, lower, within)) in
      let second : get_or (map key fs) j (key d) ≡ key (get_or fs j d) = get_or-map key fs j d (key d) within in
      let itself : eq_by_cmp R (get_or (map key fs) i (key d)) (get_or (map key fs) j (key d)) ≡ true =
      ap (λ k. eq_by_cmp R k (get_or (map key fs) j (key d))) (first ∙ equal ∙ sym second) ∙ (eq_by_cmp_equiv o).refl (get_or (map key fs) j (key d)) in
      true≢false (sym itself ∙ apart_keys)

  -- The same entry is found.
  found_same : (q : K) (es fs : List (K × X)) → IsPermutation es fs → AreApart key es → AreApart key fs → find R q (keyed key es) ≡ find R q (keyed key fs)
  found_same q es fs moved apart_es apart_fs = by_first (find R q (keyed key es)) refl (find R q (keyed key fs)) refl
    where
      in_other : (xs ys : List (K × X)) → IsPermutation xs ys → AreApart key ys → (r : K × X) → find R q (keyed key xs) ≡ Some r → find R q (keyed key ys) ≡ Some r
      in_other xs ys moves apart r is =
          let there = found_one o same key q xs r is in
          subst (λ k. find R k (keyed key ys) ≡ Some r) there.1 (found_itself o same key ys r apart (Contains-permutation xs ys r moves there.0))

      by_first : (a : Option (K × X)) → find R q (keyed key es) ≡ a → (b : Option (K × X)) → find R q (keyed key fs) ≡ b → find R q (keyed key es) ≡ find R q (keyed key fs)
      by_first (Some r) is b other = is ∙ sym (in_other es fs moved apart_fs r is)
      by_first None is None other = is ∙ sym other
      by_first None is (Some r) other = in_other fs es (IsPermutation-sym es fs moved) apart_es r other ∙ sym other

  entries_sorted_are : (es fs : List (K × X)) → IsPermutation es fs → AreApart key es → IsStrictlySortedBy R (keys_of fs) → entries (from_entries {R = R} es) ≡ fs
  entries_sorted_are es fs moved apart strict =
      ap entries
      (same_map o same (from_entries es) (from_entries fs)
      (λ q. get-from_entries o es q ∙ find_entry q es ∙ ap (option_map (λ e. e.1)) (found_same q es fs moved apart (apart_moved es fs moved apart)) ∙ sym (find_entry q fs) ∙ sym (get-from_entries o fs q)))
      ∙ entries-made o same fs strict

-- Entries with different keys that are sorted by key and then number are strictly sorted by key.
module _ {K : Type 0} {R : K → K → Ordering} (o : IsTotalOrder R) (same : IsAntisymmetric R) where
  less_then : (e f : K × ℕ) → e.0 ≢ f.0 → is_lt (ordering_then (R f.0 e.0) (nat_cmp f.1 e.1)) ≡ false → R e.0 f.0 ≡ Less
  less_then e f apart not_less = by_order (R f.0 e.0) refl not_less
    where
      by_order : (r : Ordering) → R f.0 e.0 ≡ r → is_lt (ordering_then r (nat_cmp f.1 e.1)) ≡ false → R e.0 f.0 ≡ Less
      by_order Less is lower = absurd (true≢false lower)
      by_order Equal is lower = absurd (apart (sym (same f.0 e.0 is)))
      by_order Greater is lower = o.antisymm e.0 f.0 ∙ ap ordering_reverse is

  strictly_sorted : (es : List (K × ℕ)) → AreApart (λ (e : K × ℕ). e.0) es → IsSorted (λ e f. ordering_then (R e.0 f.0) (nat_cmp e.1 f.1)) es → IsStrictlySortedBy R (keys_of es)
  unfolding IsStrictlySortedBy
  strictly_sorted [] apart sorted = tt
  strictly_sorted (e ∷ es) apart sorted =
      let key : K × ℕ → K = λ f. f.0 in
      let long = length-map (e ∷ es) key in
      sorted_from_all_adjacent o (map key (e ∷ es)) e.0
      (λ k within.
      let inside : k + 1 < length (e ∷ es) = omega (arith, within, long) in
      let first : get_or (map key (e ∷ es)) k e.0 ≡ key (get_or (e ∷ es) k e) = get_or-map key (e ∷ es) k e e.0 (omega (arith, inside)) in
      let second : get_or (map key (e ∷ es)) (k + 1) e.0 ≡ key (get_or (e ∷ es) (k + 1) e) = get_or-map key (e ∷ es) (k + 1) e e.0 inside in
      (λ i. R (first i) (second i))
      ∙ less_then (get_or (e ∷ es) k e) (get_or (e ∷ es) (k + 1) e) (apart k (k + 1) e (omega arith) inside) (sorted k e (omega arith) inside))

-- The numbers of the sorted entries are in the order of names, since a user's files have different names.
pub listed_are : (owner : ℕ) (files : List FileRec) (es fs : List (LocalName × ℕ)) → AllPairs (λ (r : FileRec) (s : FileRec). SameName r s → ⊥) files
    → es ≡ map (λ r. (name_in r, r.number)) (filter (λ r. r.owner == owner) files) → IsPermutation es fs → IsSorted (λ e f. ordering_then (name_cmp e.0 f.0) (nat_cmp e.1 f.1)) fs
    → map (λ e. e.1) fs ≡ numbers_by_name owner files
listed_are owner files es fs names is moved sorted =
    let own = filter (λ r. r.owner == owner) files in
    let entry = λ (r : FileRec). let e : LocalName × ℕ = (name_in r, r.number) in e in
    let owned = filter_passes (λ (r : FileRec). r.owner == owner) files in
    let differ : AllPairs (λ (r : FileRec) (s : FileRec). name_in r ≢ name_in s) own =
    λ i j d lower within equal.
    AllPairs-filter (λ (r : FileRec) (s : FileRec). SameName r s → ⊥) (λ (r : FileRec). r.owner == owner) files names i j d lower within
    (record {
      owner = eqb-true (get_or own i d).owner owner (owned i d (omega (arith, lower, within))) ∙ sym (eqb-true (get_or own j d).owner owner (owned j d within));
      local = ap (λ (n : LocalName). n.local) equal;
      generation = ap (λ (n : LocalName). n.generation) equal;
      lang = ap (λ (n : LocalName). n.lang) equal;
    }) in
    let apart : AreApart (λ (e : LocalName × ℕ). e.0) es = subst (AreApart (λ (e : LocalName × ℕ). e.0)) (sym is) (pairs_of_map (λ (e : LocalName × ℕ) (f : LocalName × ℕ). e.0 ≢ f.0) entry own differ) in
    ap (map (λ (e : LocalName × ℕ). e.1))
    (sym (entries_sorted_are name_total name_exact es fs moved apart (strictly_sorted name_total name_exact fs (apart_moved name_total name_exact es fs moved apart) sorted)))
    ∙ ap (λ (l : List (LocalName × ℕ)). map (λ (e : LocalName × ℕ). e.1) (entries (from_entries {R = name_cmp} l))) is
