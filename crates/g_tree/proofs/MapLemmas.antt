-- Finite maps made of lists of entries: parts of lists, values that are changed, and the entries in order.
-- serves: find_user (there, value), rows_are_of_records, ChangeLemmas, EntryLemmas, FaultLemmas, LawLemmas, NamedLemmas, PlaceLemmas, PutLemmas, and 7 more
use Rattle.std.proofs.Common.{◌≡◌, ◌≢◌, ℕ, Bool, true, false, cond, List, [], ◌∷◌, ◌++◌, length, map, filter, max, Option, Some, None, refl, sym, ap, subst, ◌∙◌, is_some, arith, true≢false, inl, inr}
use Rattle.std.specs.List.{AllPairs, All, Contains}
use Rattle.std.specs.List.Sorted.{IsPermutation}
use Rattle.std.specs.Option.{option_map}
use Rattle.std.specs.Ordering.{eq_by_cmp, is_eq}
use Rattle.std.specs.declared.cmp.Ordering.{Ordering}
use Rattle.std.specs.declared.cmp.Ordering.TheVariants.{Less, Equal, Greater}
use Rattle.std.specs.Cmp.{IsTotalOrder, eq_by_cmp_equiv}
use Rattle.std.specs.FinMap.{IsAntisymmetric, get, insert, remove, entries, entries_sorted, from_entries, empty, find, same_map, len-entries, len-empty, get-entries, get-from_entries, get-insert, get-remove, entries-insert}
use Rattle.std.specs.FinMap.Entries.{put, by_order, same_entries, is_sorted-where_key, find-where_key}
use Rattle.std.proofs.lemmas.List.Sorted.{IsPermutation-refl, IsPermutation-cons, IsPermutation-trans, IsPermutation-middle}
use Rattle.std.proofs.lemmas.List.Elements.{All-head, All-tail, All-contains}
use Rattle.g_plain.proofs.Found.{tied_are, apart_is, same_some}
use Rattle.g_tree.proofs.ListLemmas.{pairs_first, pairs_rest, contains_first, contains_more, contains_cases, greatest}

-- The first of two options that isn't None.
abbrev pub or_else : {X : Type 0} → Option X → Option X → Option X
or_else None p = p
or_else (Some x) p = Some x

-- what a first answer hides
pub shadowed : {A : Type 0} (b : Bool) (x y z : A) → cond b x z ≡ cond b x (cond b y z)
shadowed true x y z = refl
shadowed false x y z = refl

two_first : (a b : Bool) (m n k : ℕ) → cond a (max m (cond b (max n k) k)) (cond b (max n k) k) ≡ cond b (max n (cond a (max m k) k)) (cond a (max m k) k)
two_first true true m n k = omega arith
two_first true false m n k = refl
two_first false true m n k = refl
two_first false false m n k = refl

none_some : {X : Type 0} (x : X) → Some x ≡ None → ⊥
none_some x e = true≢false (ap is_some e)

module _ {K X : Type 0} (R : K → K → Ordering) where
  pub find_append : (q : K) (xs ys : List (K × X)) → find R q (xs ++ ys) ≡ or_else (find R q xs) (find R q ys)
  find_append q [] ys = refl
  find_append q (e ∷ xs) ys =
      elim (eq_by_cmp R q e.0) as (λ t. cond t (Some e.1) (find R q (xs ++ ys)) ≡ or_else (cond t (Some e.1) (find R q xs)) (find R q ys)) [ true ↦ refl | false ↦ find_append q xs ys ]

  -- No key occurs twice.
  abbrev pub Apart : List (K × X) → Type 0
  Apart [] = Unit {0}
  Apart (e ∷ es) = (find R e.0 es ≡ None) × Apart es

module _ {K X : Type 0} {R : K → K → Ordering} (o : IsTotalOrder R) (same : IsAntisymmetric R) where
  -- An entry whose key doesn't occur before it is inserted in the middle.
  pub made_middle : (xs ys : List (K × X)) (k : K) (v : X) → find R k xs ≡ None → from_entries {R = R} (xs ++ (k, v) ∷ ys) ≡ insert (from_entries (xs ++ ys)) k v
  made_middle xs ys k v none =
      same_map o same _ _
      (λ q. get-from_entries o (xs ++ (k, v) ∷ ys) q ∙ find_append R q xs ((k, v) ∷ ys)
      ∙ elim (eq_by_cmp R q k) as (λ t. eq_by_cmp R q k ≡ t → or_else (find R q xs) (cond t (Some v) (find R q ys)) ≡ cond t (Some v) (or_else (find R q xs) (find R q ys))) [
        | true ↦ λ t. ap (λ p. or_else p (Some v)) (ap (λ j. find R j xs) (tied_are o same q k t) ∙ none)
        | false ↦ λ t. refl
      ] refl
      ∙ sym (get-insert o (from_entries (xs ++ ys)) k v q ∙ ap (cond (eq_by_cmp R q k) (Some v)) (get-from_entries o (xs ++ ys) q ∙ find_append R q xs ys)))

  -- another value of a key in the middle
  pub made_other : (xs ys : List (K × X)) (k : K) (v w : X) → find R k xs ≡ None → from_entries {R = R} (xs ++ (k, w) ∷ ys) ≡ insert (from_entries (xs ++ (k, v) ∷ ys)) k w
  made_other xs ys k v w none =
      made_middle xs ys k w none
      ∙ same_map o same _ _
      (λ q. get-insert o (from_entries (xs ++ ys)) k w q
      ∙ elim (eq_by_cmp R q k) as (λ t. cond t (Some w) (get (from_entries {R = R} (xs ++ ys)) q) ≡ cond t (Some w) (cond t (Some v) (get (from_entries {R = R} (xs ++ ys)) q))) [ true ↦ refl | false ↦ refl ]
      ∙ sym (get-insert o (from_entries (xs ++ (k, v) ∷ ys)) k w q
      ∙ ap (λ m. cond (eq_by_cmp R q k) (Some w) (get m q)) (made_middle xs ys k v none)
      ∙ ap (cond (eq_by_cmp R q k) (Some w)) (get-insert o (from_entries (xs ++ ys)) k v q)))

  -- a list without the one entry of a key
  pub made_without : (xs ys : List (K × X)) (k : K) (v : X) → find R k xs ≡ None → find R k ys ≡ None → from_entries {R = R} (xs ++ ys) ≡ remove (from_entries (xs ++ (k, v) ∷ ys)) k
  made_without xs ys k v before behind =
      same_map o same _ _
      (λ q. get-from_entries o (xs ++ ys) q ∙ find_append R q xs ys
      ∙ elim (eq_by_cmp R q k) as (λ t. eq_by_cmp R q k ≡ t → or_else (find R q xs) (find R q ys) ≡ cond t None (cond t (Some v) (or_else (find R q xs) (find R q ys)))) [
        | true ↦ λ t. ap (λ j. or_else (find R j xs) (find R j ys)) (tied_are o same q k t) ∙ ap (λ p. or_else p (find R k ys)) before ∙ behind
        | false ↦ λ t. refl
      ] refl
      ∙ sym (get-remove o (from_entries (xs ++ (k, v) ∷ ys)) k q
      ∙ ap (λ m. cond (eq_by_cmp R q k) None (get m q)) (made_middle xs ys k v before)
      ∙ ap (cond (eq_by_cmp R q k) None) (get-insert o (from_entries (xs ++ ys)) k v q
      ∙ ap (cond (eq_by_cmp R q k) (Some v)) (get-from_entries o (xs ++ ys) q ∙ find_append R q xs ys))))

no_entries : {X : Type 0} (es : List X) → length es ≡ 0 → es ≡ []
no_entries [] e = refl
no_entries (x ∷ es) e = absurd (omega arith)

entries_none : {K : Type 0} (X : Type 0) (R : K → K → Ordering) → entries (empty {X = X} {R = R}) ≡ []
entries_none X R = no_entries _ (sym (len-entries (empty {X = X} {R = R})) ∙ len-empty R X)

module _ {K X : Type 0} {R : K → K → Ordering} (o : IsTotalOrder R) where
  put_permutes : (k : K) (v : X) (es : List (K × X)) → find R k es ≡ None → IsPermutation ((k, v) ∷ es) (put R k v es)
  put_permutes k v [] none = IsPermutation-refl ((k, v) ∷ [])
  put_permutes k v (e ∷ es) none =
      elim (R k e.0) as (λ r. cond (is_eq r) (Some e.1) (find R k es) ≡ None → IsPermutation ((k, v) ∷ e ∷ es) (by_order r ((k, v) ∷ e ∷ es) ((e.0, v) ∷ es) (e ∷ put R k v es))) [
        | Less ↦ λ _. IsPermutation-refl ((k, v) ∷ e ∷ es)
        | Equal ↦ λ n. absurd (none_some e.1 n)
        | Greater ↦ λ n. IsPermutation-trans ((k, v) ∷ e ∷ es) (e ∷ (k, v) ∷ es) (e ∷ put R k v es) (IsPermutation-middle ((k, v) ∷ []) e es) (IsPermutation-cons e ((k, v) ∷ es) (put R k v es) (put_permutes k v es n))
      ] none

  -- the entries of a map that is made of entries with each key once are these, in order
  pub entries_permute : (es : List (K × X)) → Apart R es → IsPermutation es (entries (from_entries {R = R} es))
  entries_permute [] a = subst (λ fs. IsPermutation [] fs) (sym (entries_none X R)) (IsPermutation-refl [])
  entries_permute (e ∷ es) a =
      let later = entries_permute es a.1 in
      let absent : find R e.0 (entries (from_entries {R = R} es)) ≡ None = sym (get-entries (from_entries es) e.0) ∙ get-from_entries o es e.0 ∙ a.0 in
      subst (λ fs. IsPermutation (e ∷ es) fs) (sym (entries-insert o (from_entries es) e.0 e.1))
      (IsPermutation-trans (e ∷ es) (e ∷ entries (from_entries {R = R} es)) (put R e.0 e.1 (entries (from_entries es)))
      (IsPermutation-cons e es (entries (from_entries {R = R} es)) later) (put_permutes e.0 e.1 (entries (from_entries es)) absent))

-- values that are made of others
module _ {K A X : Type 0} (R : K → K → Ordering) (g : A → X) where
  abbrev pub with_value : K × A → K × X
  with_value e = (e.0, g e.1)

  put_valued : (k : K) (v : A) (es : List (K × A)) → put R k (g v) (map with_value es) ≡ map with_value (put R k v es)
  put_valued k v [] = refl
  put_valued k v (e ∷ es) =
      elim (R k e.0) as (λ r. by_order r ((k, g v) ∷ (e.0, g e.1) ∷ map with_value es) ((e.0, g v) ∷ map with_value es) ((e.0, g e.1) ∷ put R k (g v) (map with_value es))
      ≡ map with_value (by_order r ((k, v) ∷ e ∷ es) ((e.0, v) ∷ es) (e ∷ put R k v es))) [
        | Less ↦ refl
        | Equal ↦ refl
        | Greater ↦ ap (λ fs. (e.0, g e.1) ∷ fs) (put_valued k v es)
      ]

  pub find_valued : (q : K) (es : List (K × A)) → find R q (map with_value es) ≡ option_map g (find R q es)
  find_valued q [] = refl
  find_valued q (e ∷ es) =
      elim (eq_by_cmp R q e.0) as (λ t. cond t (Some (g e.1)) (find R q (map with_value es)) ≡ option_map g (cond t (Some e.1) (find R q es))) [ true ↦ refl | false ↦ find_valued q es ]

  module _ (o : IsTotalOrder R) where
    pub get_valued : (es : List (K × A)) (q : K) → get (from_entries {R = R} (map with_value es)) q ≡ option_map g (get (from_entries {R = R} es) q)
    get_valued es q = get-from_entries o (map with_value es) q ∙ find_valued q es ∙ ap (option_map g) (sym (get-from_entries o es q))

    pub entries_valued : (es : List (K × A)) → entries (from_entries {R = R} (map with_value es)) ≡ map with_value (entries (from_entries {R = R} es))
    entries_valued [] = entries_none X R ∙ ap (map with_value) (sym (entries_none A R))
    entries_valued (e ∷ es) =
        entries-insert o (from_entries (map with_value es)) e.0 (g e.1) ∙ ap (put R e.0 (g e.1)) (entries_valued es) ∙ put_valued e.0 e.1 (entries (from_entries es))
        ∙ ap (map with_value) (sym (entries-insert o (from_entries es) e.0 e.1))

-- The entries of some keys only.
module _ {K X : Type 0} {R : K → K → Ordering} (o : IsTotalOrder R) (same : IsAntisymmetric R) (p : K → Bool) where
  pub entries_kept : (es : List (K × X)) → entries (from_entries {R = R} (filter (λ e. p e.0) es)) ≡ filter (λ e. p e.0) (entries (from_entries {R = R} es))
  entries_kept es =
      let alike = λ (q : K) (x : K) (t : R q x ≡ Equal). ap p (sym (same q x t)) in
      same_entries R o same _ _ (entries_sorted (from_entries (filter (λ e. p e.0) es))) (is_sorted-where_key R p (entries (from_entries es)) (entries_sorted (from_entries es)))
      (λ q. sym (get-entries (from_entries (filter (λ e. p e.0) es)) q) ∙ get-from_entries o (filter (λ e. p e.0) es) q ∙ find-where_key R p q (alike q) es
      ∙ ap (λ r. cond (p q) r None) (sym (get-from_entries o es q) ∙ get-entries (from_entries es) q)
      ∙ sym (find-where_key R p q (alike q) (entries (from_entries es))))

-- elements by a key of theirs
abbrev pub keyed : {A K : Type 0} → (A → K) → List A → List (K × A)
keyed key xs = map (λ x. (key x, x)) xs

-- no two have one key
abbrev pub AreApart : {A K : Type 0} → (A → K) → List A → Type 0
AreApart key xs = AllPairs (λ x y. key x ≢ key y) xs

module _ {A K : Type 0} {R : K → K → Ordering} (o : IsTotalOrder R) (same : IsAntisymmetric R) (key : A → K) where
  pub found_one : (q : K) (xs : List A) (r : A) → find R q (keyed key xs) ≡ Some r → Contains xs r × (key r ≡ q)
  found_one q [] r e = absurd (none_some r (sym e))
  found_one q (x ∷ xs) r e =
      elim (eq_by_cmp R q (key x)) as (λ t. eq_by_cmp R q (key x) ≡ t → cond t (Some x) (find R q (keyed key xs)) ≡ Some r → Contains (x ∷ xs) r × (key r ≡ q)) [
        | true ↦ λ t h. let is = same_some x r h in (subst (Contains (x ∷ xs)) is (contains_first x xs), ap key (sym is) ∙ sym (tied_are o same q (key x) t))
        | false ↦ λ t h. let rest = found_one q xs r h in (contains_more x r xs rest.0, rest.1)
      ] refl e

  pub none_found : (q : K) (xs : List A) → All (λ x. q ≢ key x) xs → find R q (keyed key xs) ≡ None
  none_found q [] all = refl
  none_found q (x ∷ xs) all =
      ap (λ b. cond b (Some x) (find R q (keyed key xs))) (apart_is o same q (key x) (All-head (λ y. q ≢ key y) x xs all)) ∙ none_found q xs (All-tail (λ y. q ≢ key y) x xs all)

  pub apart_keyed : (xs : List A) → AreApart key xs → Apart R (keyed key xs)
  apart_keyed [] pairs = tt
  apart_keyed (x ∷ xs) pairs = (none_found (key x) xs (pairs_first (λ y z. key y ≢ key z) x xs pairs), apart_keyed xs (pairs_rest (λ y z. key y ≢ key z) x xs pairs))

  pub found_itself : (xs : List A) (r : A) → AreApart key xs → Contains xs r → find R (key r) (keyed key xs) ≡ Some r
  found_itself [] r pairs (k, within, is) = absurd (omega arith)
  found_itself (x ∷ xs) r pairs there =
      elim (contains_cases x r xs there) as (λ _. find R (key r) (keyed key (x ∷ xs)) ≡ Some r) [
        | inl is ↦ ap (λ b. cond b (Some x) (find R (key r) (keyed key xs))) (ap (λ k. eq_by_cmp R (key r) k) (ap key is) ∙ (eq_by_cmp_equiv o).refl (key r)) ∙ ap Some is
        | inr later ↦
            let other : key x ≢ key r = All-contains (λ y. key x ≢ key y) xs r (pairs_first (λ y z. key y ≢ key z) x xs pairs) later in
            ap (λ b. cond b (Some x) (find R (key r) (keyed key xs))) (apart_is o same (key r) (key x) (λ e. other (sym e))) ∙ found_itself xs r (pairs_rest (λ y z. key y ≢ key z) x xs pairs) later
      ]

module _ {K X : Type 0} (R : K → K → Ordering) (p : K × X → Bool) (f : K × X → ℕ) where
  greatest_put : (k : K) (v : X) (es : List (K × X)) → find R k es ≡ None → greatest p f (put R k v es) ≡ greatest p f ((k, v) ∷ es)
  greatest_put k v [] none = refl
  greatest_put k v (e ∷ es) none =
      elim (R k e.0) as (λ r. cond (is_eq r) (Some e.1) (find R k es) ≡ None → greatest p f (by_order r ((k, v) ∷ e ∷ es) ((e.0, v) ∷ es) (e ∷ put R k v es)) ≡ greatest p f ((k, v) ∷ e ∷ es)) [
        | Less ↦ λ _. refl
        | Equal ↦ λ n. absurd (none_some e.1 n)
        | Greater ↦ λ n. ap (λ m. cond (p e) (max (f e) m) m) (greatest_put k v es n) ∙ two_first (p e) (p (k, v)) (f e) (f (k, v)) (greatest p f es)
      ] none

  pub greatest_made : IsTotalOrder R → (es : List (K × X)) → Apart R es → greatest p f (entries (from_entries {R = R} es)) ≡ greatest p f es
  greatest_made o [] a = ap (greatest p f) (entries_none X R)
  greatest_made o (e ∷ es) a =
      let absent : find R e.0 (entries (from_entries {R = R} es)) ≡ None = sym (get-entries (from_entries es) e.0) ∙ get-from_entries o es e.0 ∙ a.0 in
      ap (greatest p f) (entries-insert o (from_entries es) e.0 e.1) ∙ greatest_put e.0 e.1 (entries (from_entries es)) absent
      ∙ ap (λ m. cond (p e) (max (f e) m) m) (greatest_made o es a.1)
