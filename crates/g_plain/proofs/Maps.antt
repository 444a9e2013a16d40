-- Finite maps made of lists of entries, as std's ordered maps keep them.
-- serves: crates above
use Rattle.std.proofs.Common.{◌≡◌, true, cond, ◌&&◌, List, [], ◌∷◌, length, Some, None, refl, sym, ap, subst, ◌∙◌, T}
use Rattle.std.specs.Ordering.{eq_by_cmp, is_lt}
use Rattle.std.specs.declared.cmp.Ordering.{Ordering}
use Rattle.std.specs.declared.cmp.Ordering.TheVariants.{Less}
use Rattle.std.specs.Cmp.{IsTotalOrder, eq_by_cmp_equiv}
use Rattle.std.specs.List.{AllByRecursion}
use Rattle.std.specs.Map.{lookup, keys_of}
use Rattle.std.specs.BTreeMap.{is_at}
use Rattle.std.specs.List.Sorted.{IsStrictlySortedBy}
use Rattle.std.specs.FinMap.{IsAntisymmetric, get, insert, remove, entries, len, from_entries, from_sorted, find, is_sorted, same_map, get-from_entries, get-insert, get-remove, get-from_sorted, entries-from_sorted, len-entries}
use Rattle.std.specs.FinMap.Entries.{below_all}

module _ {K X : Type 0} {R : K → K → Ordering} (o : IsTotalOrder R) where
  pub find-lookup : (q : K) (es : List (K × X)) → find R q es ≡ lookup (is_at (R q)) es
  find-lookup q [] = refl
  find-lookup q (e ∷ es) = ap (cond (eq_by_cmp R q e.0) (Some e.1)) (find-lookup q es)

  pub get-made : (es : List (K × X)) (q : K) → get (from_entries {R = R} es) q ≡ lookup (is_at (R q)) es
  get-made es q = get-from_entries o es q ∙ find-lookup q es

  -- A list in which one key has a new value represents the map with that value inserted.
  pub made_insert : IsAntisymmetric R → (es fs : List (K × X)) (k : K) (v : X) → ((q : K) → lookup (is_at (R q)) fs ≡ cond (is_at (R k) q) (Some v) (lookup (is_at (R q)) es)) → from_entries {R = R} fs ≡ insert (from_entries es) k v
  made_insert same es fs k v is =
      same_map o same _ _
      (λ q. get-made fs q ∙ is q ∙ ap (λ b. cond b (Some v) (lookup (is_at (R q)) es)) ((eq_by_cmp_equiv o).symm k q)
      ∙ ap (cond (eq_by_cmp R q k) (Some v)) (sym (get-made es q)) ∙ sym (get-insert o (from_entries es) k v q))

  -- A list without one key represents the map without it.
  pub made_remove : IsAntisymmetric R → (es fs : List (K × X)) (k : K) → ((q : K) → lookup (is_at (R q)) fs ≡ cond (is_at (R k) q) None (lookup (is_at (R q)) es)) → from_entries {R = R} fs ≡ remove (from_entries es) k
  made_remove same es fs k is =
      same_map o same _ _
      (λ q. get-made fs q ∙ is q ∙ ap (λ b. cond b None (lookup (is_at (R q)) es)) ((eq_by_cmp_equiv o).symm k q)
      ∙ ap (cond (eq_by_cmp R q k) None) (sym (get-made es q)) ∙ sym (get-remove o (from_entries es) k q))

  below_from : (x : K) (es : List (K × X)) → AllByRecursion (λ y. R x y ≡ Less) (keys_of es) → below_all R x es ≡ true
  below_from x [] a = refl
  below_from x (e ∷ es) a = ap (λ r. is_lt r && below_all R x es) a.0 ∙ below_from x es a.1

  rising_from : (es : List (K × X)) → IsStrictlySortedBy R (keys_of es) → is_sorted R es ≡ true
  unfolding IsStrictlySortedBy
  rising_from [] s = refl
  rising_from (e ∷ es) s = ap (λ b. b && is_sorted R es) (below_from e.0 es s.0) ∙ rising_from es s.1

  -- entries in order are those of the map that is made of them
  pub entries-made : IsAntisymmetric R → (es : List (K × X)) → IsStrictlySortedBy R (keys_of es) → entries (from_entries {R = R} es) ≡ es
  entries-made same es s =
      let in_order : T (is_sorted R es) = subst T (sym (rising_from es s)) tt in
      ap entries (same_map o same (from_entries es) (from_sorted es) (λ q. get-from_entries o es q ∙ sym (get-from_sorted R es q in_order)))
      ∙ entries-from_sorted R es in_order

  pub len-made : IsAntisymmetric R → (es : List (K × X)) → IsStrictlySortedBy R (keys_of es) → len (from_entries {R = R} es) ≡ length es
  len-made same es s = len-entries (from_entries es) ∙ ap length (entries-made same es s)
