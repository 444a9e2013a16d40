-- What a look-up in a finite map implies about the map before a change.
-- serves: StepAnswers, StepKept, TreeKept, crates above
use Rattle.std.proofs.Common.{◌≡◌, ◌≢◌, ℕ, ◌≤◌, ◌+◌, ◌-◌, true, false, cond, Option, Some, None, refl, sym, ap, ◌∙◌, is_some, unwrap_or, arith, ◌⊎◌, inl, inr, true≢false}
use Rattle.std.specs.Ordering.{eq_by_cmp, is_eq}
use Rattle.std.specs.declared.cmp.Ordering.{Ordering}
use Rattle.std.specs.declared.cmp.Ordering.TheVariants.{Less, Equal, Greater}
use Rattle.std.specs.Cmp.{IsTotalOrder, eq_by_cmp_equiv}
use Rattle.std.specs.FinMap.{FinMap, IsAntisymmetric, get, insert, remove, len, get-insert, get-remove, len-insert, len-remove}

pub some_of : {X : Type 0} (o : Option X) → is_some o ≡ true → (x : X) × (o ≡ Some x)
some_of None e = absurd (true≢false (sym e))
some_of (Some x) e = (x, refl)

pub same_some : {X : Type 0} (x y : X) → Some x ≡ Some y → x ≡ y
same_some x y e = ap (λ o. unwrap_or o x) e

tie_is : (r : Ordering) → is_eq r ≡ true → r ≡ Equal
tie_is Less e = absurd (true≢false (sym e))
tie_is Equal e = refl
tie_is Greater e = absurd (true≢false (sym e))

module _ {K : Type 0} {R : K → K → Ordering} (o : IsTotalOrder R) (same : IsAntisymmetric R) where
  pub tied_are : (a b : K) → eq_by_cmp R a b ≡ true → a ≡ b
  tied_are a b e = same a b (tie_is (R a b) e)

  pub untied : (a b : K) → eq_by_cmp R a b ≡ false → a ≢ b
  untied a b f e = true≢false (sym ((eq_by_cmp_equiv o).refl a) ∙ ap (eq_by_cmp R a) e ∙ f)

  pub apart_is : (a b : K) → a ≢ b → eq_by_cmp R a b ≡ false
  apart_is a b n =
      elim (eq_by_cmp R a b) as (λ t. eq_by_cmp R a b ≡ t → t ≡ false) [ true ↦ λ e. absurd (n (tied_are a b e)) | false ↦ λ _. refl ] refl

module _ {K X : Type 0} {R : K → K → Ordering} (o : IsTotalOrder R) (same : IsAntisymmetric R) where
  pub inserted : (m : FinMap R X) (k : K) (v : X) (q : K) (x : X) → get (insert m k v) q ≡ Some x → ((q ≡ k) × (x ≡ v)) ⊎ ((q ≢ k) × (get m q ≡ Some x))
  inserted m k v q x e =
      elim (eq_by_cmp R q k) as (λ t. eq_by_cmp R q k ≡ t → cond t (Some v) (get m q) ≡ Some x → ((q ≡ k) × (x ≡ v)) ⊎ ((q ≢ k) × (get m q ≡ Some x))) [
        | true ↦ λ t h. inl (tied_are o same q k t, sym (same_some v x h))
        | false ↦ λ t h. inr (untied o same q k t, h)
      ] refl (sym (get-insert o m k v q) ∙ e)

  pub removed : (m : FinMap R X) (k q : K) (x : X) → get (remove m k) q ≡ Some x → (q ≢ k) × (get m q ≡ Some x)
  removed m k q x e =
      elim (eq_by_cmp R q k) as (λ t. eq_by_cmp R q k ≡ t → cond t None (get m q) ≡ Some x → (q ≢ k) × (get m q ≡ Some x)) [
        | true ↦ λ t h. absurd (true≢false (sym (ap is_some h)))
        | false ↦ λ t h. (untied o same q k t, h)
      ] refl (sym (get-remove o m k q) ∙ e)

  pub here : (m : FinMap R X) (k : K) (v : X) → get (insert m k v) k ≡ Some v
  here m k v = get-insert o m k v k ∙ ap (λ t. cond t (Some v) (get m k)) ((eq_by_cmp_equiv o).refl k)

  pub grows : (m : FinMap R X) (k : K) (v : X) (q : K) → is_some (get m q) ≡ true → is_some (get (insert m k v) q) ≡ true
  grows m k v q e =
      ap is_some (get-insert o m k v q)
      ∙ elim (eq_by_cmp R q k) as (λ t. is_some (cond t (Some v) (get m q)) ≡ true) [ true ↦ refl | false ↦ e ]

  pub stays : (m : FinMap R X) (k q : K) → q ≢ k → get (remove m k) q ≡ get m q
  stays m k q n = get-remove o m k q ∙ ap (λ t. cond t None (get m q)) (apart_is o same q k n)

  pub len_more : (m : FinMap R X) (k : K) (v : X) (n : ℕ) → (is_some (get m k) ≡ false → len m + 1 ≤ n) → len m ≤ n → len (insert m k v) ≤ n
  len_more m k v n new old =
      rw (len-insert o m k v)
      (elim (is_some (get m k)) as (λ t. is_some (get m k) ≡ t → cond t (len m) (len m + 1) ≤ n) [ true ↦ λ _. old | false ↦ λ f. new f ] refl)

  pub len_less : (m : FinMap R X) (k : K) (n : ℕ) → len m ≤ n → len (remove m k) ≤ n
  len_less m k n old =
      rw (len-remove o m k) (elim (is_some (get m k)) as (λ t. cond t (len m - 1) (len m) ≤ n) [ true ↦ omega arith | false ↦ old ])
