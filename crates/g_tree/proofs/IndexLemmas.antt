-- The index of names, which is searched by equality, as an ordered map.
-- serves: close (entries), fall (entries, was), find, insert (entries, was), raise (entries, there), remove (entries), replace (entries), settle (entries)
use Rattle.std.proofs.Common.{◌≡◌, Bool, cond, List, [], ◌∷◌, Option, Some, None, IsSome, refl, sym, ap, subst, ◌∙◌, is_some, true, false, true≢false}
use Rattle.std.specs.Map.{lookup, lookup_key}
use Rattle.std.specs.BTreeMap.{is_at}
use Rattle.std.specs.FinMap.{get, insert, remove, from_entries}
use Rattle.g_name.specs.declared.full.Full.{Full}
use Rattle.g_name.specs.Order.{full_cmp}
use Rattle.g_name.proofs.Order.{full_total, full_ties, full_eq}
use Rattle.g_plain.proofs.Found.{same_some, tied_are}
use Rattle.g_plain.proofs.Maps.{get-made, made_insert, made_remove}
use Rattle.g_plain.proofs.TextMaps.{full_exact}

lookup_same : {K X : Type 0} (p q : K → Bool) → ((k : K) → p k ≡ q k) → (es : List (K × X)) → lookup p es ≡ lookup q es
lookup_same p q same [] = refl
lookup_same p q same (e ∷ es) = ap (λ b. cond b (Some e.1) (lookup p es)) (same e.0) ∙ ap (cond (q e.0) (Some e.1)) (lookup_same p q same es)

module _ {X : Type 0} where
  by_order : (q : Full) (es : List (Full × X)) → lookup (full_eq q) es ≡ lookup (is_at (full_cmp q)) es
  by_order q es = lookup_same (full_eq q) (is_at (full_cmp q)) (full_ties q) es

  -- what equality finds is what the map has
  pub get_indexed : (es : List (Full × X)) (q : Full) → lookup (full_eq q) es ≡ get (from_entries {R = full_cmp} es) q
  get_indexed es q = by_order q es ∙ sym (get-made full_total es q)

  pub indexed_insert : (es fs : List (Full × X)) (k : Full) (v : X) → ((q : Full) → lookup (full_eq q) fs ≡ cond (full_eq k q) (Some v) (lookup (full_eq q) es)) → from_entries {R = full_cmp} fs ≡ insert (from_entries es) k v
  indexed_insert es fs k v is =
      made_insert full_total full_exact es fs k v
      (λ q. sym (by_order q fs) ∙ is q ∙ ap (λ b. cond b (Some v) (lookup (full_eq q) es)) (full_ties k q) ∙ ap (cond (is_at (full_cmp k) q) (Some v)) (by_order q es))

  pub indexed_remove : (es fs : List (Full × X)) (k : Full) → ((q : Full) → lookup (full_eq q) fs ≡ cond (full_eq k q) None (lookup (full_eq q) es)) → from_entries {R = full_cmp} fs ≡ remove (from_entries es) k
  indexed_remove es fs k is =
      made_remove full_total full_exact es fs k
      (λ q. sym (by_order q fs) ∙ is q ∙ ap (λ b. cond b None (lookup (full_eq q) es)) (full_ties k q) ∙ ap (cond (is_at (full_cmp k) q) None) (by_order q es))

-- the key that is found for one is that one
pub key_found : {X : Type 0} (q k : Full) (es : List (Full × X)) → Some k ≡ lookup_key (full_eq q) es → k ≡ q
key_found q k [] found = absurd (true≢false (ap is_some found))
key_found q k (e ∷ es) found =
    elim (full_eq q e.0) as (λ t. full_eq q e.0 ≡ t → Some k ≡ cond t (Some e.0) (lookup_key (full_eq q) es) → k ≡ q) [
      | true ↦ λ t same. same_some k e.0 same ∙ sym (tied_are full_total full_exact q e.0 (sym (full_ties q e.0) ∙ t))
      | false ↦ λ _ rest. key_found q k es rest
    ] refl found

pub found_there : {X : Type 0} (x : X) (o : Option X) → Some x ≡ o → IsSome o
found_there x o e = subst IsSome e refl
