-- Maps by stamp, whose values are changed each by its stamp.
-- serves: AlikeLemmas, BareLemmas, OpenAlikeLemmas, ProcessAlikeLemmas
use Rattle.std.proofs.Common.{◌≡◌, ◌&&◌, ℕ, Bool, true, false, T, cond, List, [], ◌∷◌, map, Option, Some, None, option_map, refl, sym, ◌∙◌, ap, subst, eqb-true}
use Rattle.std.specs.Cmp.{nat_cmp_total, unsigned_tied}
use Rattle.std.specs.Ordering.{eq_by_cmp, is_lt, nat_cmp}
use Rattle.std.specs.FinMap.{FinMap, empty, entries, entries_sorted, from_entries, from_sorted, get, get-empty, get-entries, get-from_sorted, get-insert, get-remove, insert, remove, same_map, nat_cmp-IsAntisymmetric}
use Rattle.std.specs.FinMap.Entries.{below_all, find, is_sorted}

abbrev pub changed : {X Y : Type 0} → (ℕ → X → Y) → List (ℕ × X) → List (ℕ × Y)
changed f es = map (λ e. (e.0, f e.0 e.1)) es

abbrev pub mapped : {X Y : Type 0} → (ℕ → X → Y) → FinMap nat_cmp X → FinMap nat_cmp Y
mapped f m = from_sorted (changed f (entries m))

pub same_maps : {X : Type 0} (m n : FinMap nat_cmp X) → ((q : ℕ) → get m q ≡ get n q) → m ≡ n
same_maps m n same = same_map nat_cmp_total nat_cmp-IsAntisymmetric m n same

tied : (q k : ℕ) → eq_by_cmp nat_cmp q k ≡ true → q ≡ k
tied q k t = eqb-true q k (sym (unsigned_tied q k) ∙ t)

module _ {X Y : Type 0} (f : ℕ → X → Y) where
  below_changed : (x : ℕ) (es : List (ℕ × X)) → below_all nat_cmp x (changed f es) ≡ below_all nat_cmp x es
  below_changed x [] = refl
  below_changed x (e ∷ es) = ap (λ (b : Bool). is_lt (nat_cmp x e.0) && b) (below_changed x es)

  sorted_changed : (es : List (ℕ × X)) → is_sorted nat_cmp (changed f es) ≡ is_sorted nat_cmp es
  sorted_changed [] = refl
  sorted_changed (e ∷ es) = ap (λ (b : Bool). b && is_sorted nat_cmp (changed f es)) (below_changed e.0 es) ∙ ap (λ (b : Bool). below_all nat_cmp e.0 es && b) (sorted_changed es)

  find_changed : (q : ℕ) (es : List (ℕ × X)) → find nat_cmp q (changed f es) ≡ option_map (f q) (find nat_cmp q es)
  find_changed q [] = refl
  find_changed q (e ∷ es) = by (eq_by_cmp nat_cmp q e.0) refl (find_changed q es)
    where
      by : (b : Bool) → eq_by_cmp nat_cmp q e.0 ≡ b → find nat_cmp q (changed f es) ≡ option_map (f q) (find nat_cmp q es) → cond b (Some (f e.0 e.1)) (find nat_cmp q (changed f es)) ≡ option_map (f q) (cond b (Some e.1) (find nat_cmp q es))
      by true t rest = ap (λ (k : ℕ). let o : Option Y = Some (f k e.1) in o) (sym (tied q e.0 t))
      by false t rest = rest

  pub get-mapped : (m : FinMap nat_cmp X) (q : ℕ) → get (mapped f m) q ≡ option_map (f q) (get m q)
  get-mapped m q =
      get-from_sorted nat_cmp (changed f (entries m)) q (subst T (sym (sorted_changed (entries m))) (entries_sorted m)) ∙ find_changed q (entries m) ∙ ap (option_map (f q)) (sym (get-entries m q))

module _ {X Y : Type 0} (f : X → Y) where
  pub mapped-empty : mapped (λ k x. f x) (empty {X = X} {R = nat_cmp}) ≡ empty
  mapped-empty = same_maps _ _ (λ q. get-mapped (λ k x. f x) empty q ∙ ap (option_map f) (get-empty nat_cmp q) ∙ sym (get-empty nat_cmp q))

  pub mapped-insert : (m : FinMap nat_cmp X) (k : ℕ) (v : X) → mapped (λ k x. f x) (insert m k v) ≡ insert (mapped (λ k x. f x) m) k (f v)
  mapped-insert m k v = same_maps _ _ (λ q.
      get-mapped (λ k x. f x) (insert m k v) q ∙ ap (option_map f) (get-insert nat_cmp_total m k v q) ∙ by (eq_by_cmp nat_cmp q k) (get m q)
      ∙ ap (λ (o : Option Y). cond (eq_by_cmp nat_cmp q k) (Some (f v)) o) (sym (get-mapped (λ k x. f x) m q)) ∙ sym (get-insert nat_cmp_total (mapped (λ k x. f x) m) k (f v) q))
    where
      by : (b : Bool) (o : Option X) → option_map f (cond b (Some v) o) ≡ cond b (Some (f v)) (option_map f o)
      by true o = refl
      by false o = refl

  pub mapped-remove : (m : FinMap nat_cmp X) (k : ℕ) → mapped (λ k x. f x) (remove m k) ≡ remove (mapped (λ k x. f x) m) k
  mapped-remove m k = same_maps _ _ (λ q.
      get-mapped (λ k x. f x) (remove m k) q ∙ ap (option_map f) (get-remove nat_cmp_total m k q) ∙ by (eq_by_cmp nat_cmp q k) (get m q)
      ∙ ap (λ (o : Option Y). cond (eq_by_cmp nat_cmp q k) None o) (sym (get-mapped (λ k x. f x) m q)) ∙ sym (get-remove nat_cmp_total (mapped (λ k x. f x) m) k q))
    where
      by : (b : Bool) (o : Option X) → option_map f (cond b None o) ≡ cond b None (option_map f o)
      by true o = refl
      by false o = refl

  pub mapped-from_entries : (es : List (ℕ × X)) → mapped (λ k x. f x) (from_entries es) ≡ from_entries (changed (λ k x. f x) es)
  mapped-from_entries [] = mapped-empty
  mapped-from_entries (e ∷ es) = mapped-insert (from_entries es) e.0 e.1 ∙ ap (λ (m : FinMap nat_cmp Y). insert m e.0 (f e.1)) (mapped-from_entries es)

-- one change after another, in either order
pub mapped-mapped : {X Y : Type 0} (f : X → Y) (g : ℕ → X → X) (h : ℕ → Y → Y) → ((k : ℕ) (x : X) → f (g k x) ≡ h k (f x))
    → (m : FinMap nat_cmp X) → mapped (λ k x. f x) (mapped g m) ≡ mapped h (mapped (λ k x. f x) m)
mapped-mapped {X} {Y} f g h same m = same_maps _ _ (λ q.
    get-mapped (λ k x. f x) (mapped g m) q ∙ ap (option_map f) (get-mapped g m q) ∙ by q (get m q)
    ∙ ap (option_map (h q)) (sym (get-mapped (λ k x. f x) m q)) ∙ sym (get-mapped h (mapped (λ k x. f x) m) q))
  where
    by : (q : ℕ) (o : Option X) → option_map f (option_map (g q) o) ≡ option_map (h q) (option_map f o)
    by q None = refl
    by q (Some x) = ap (λ (y : Y). let o : Option Y = Some y in o) (same q x)
