-- What the rules of a tree imply about its entries.
-- serves: StepKept, crates above
use Rattle.std.proofs.Common.{◌≡◌, ℕ, ◌≤◌, Bool, true, false, cond, ◌&&◌, List, [], ◌∷◌, length, map, filter, fold, max, Option, Some, None, refl, sym, ap, ◌∙◌, T, arith, unwrap_or}
use Rattle.std.specs.Ordering.{is_lt, is_eq}
use Rattle.std.specs.declared.cmp.Ordering.{Ordering}
use Rattle.std.specs.declared.cmp.Ordering.TheVariants.{Less, Equal, Greater}
use Rattle.std.specs.Cmp.{IsTotalOrder, eq_by_cmp_equiv}
use Rattle.std.specs.List.{AllByRecursion}
use Rattle.std.specs.FinMap.{FinMap, get, entries, entries_sorted, find, is_sorted, get-entries}
use Rattle.std.specs.FinMap.Entries.{below_all}
use Rattle.g_name.specs.declared.full.Full.{Full}
use Rattle.g_name.specs.declared.path.Path.{Path}
use Rattle.g_name.proofs.Order.{full_total}
use Rattle.g_plain.specs.PlainTree.{Tree, FileRow, no_row, newest, named, is_version_of}
use Rattle.g_plain.specs.Rules.{IsTree}

pub length-no_row : (o : Option FileRow) → None ≡ o → 0 ≡ length (unwrap_or o no_row).bytes
unfolding no_row
length-no_row o e = ap (λ p. length (unwrap_or p no_row).bytes) e

not_tied : (r : Ordering) → is_lt r ≡ true → is_eq r ≡ false
not_tied Less e = refl
not_tied Equal e = sym e
not_tied Greater e = refl

module _ {A : Type 0} where
  all_both : (P Q S : A → Type 0) → ((x : A) → P x → Q x → S x) → (xs : List A) → AllByRecursion P xs → AllByRecursion Q xs → AllByRecursion S xs
  all_both P Q S f [] p q = tt
  all_both P Q S f (x ∷ xs) p q = (f x p.0 q.0, all_both P Q S f xs p.1 q.1)

  pub all_map : (P Q : A → Type 0) → ((x : A) → P x → Q x) → (xs : List A) → AllByRecursion P xs → AllByRecursion Q xs
  all_map P Q f [] p = tt
  all_map P Q f (x ∷ xs) p = (f x p.0, all_map P Q f xs p.1)

module _ {K X : Type 0} {R : K → K → Ordering} (o : IsTotalOrder R) where
  all_below : (x : K) (es : List (K × X)) → T (below_all R x es) → AllByRecursion (λ e. is_lt (R x e.0) ≡ true) es
  all_below x [] b = tt
  all_below x (e ∷ es) b =
      elim (is_lt (R x e.0)) as (λ t. is_lt (R x e.0) ≡ t → T (t && below_all R x es) → AllByRecursion (λ f. is_lt (R x f.0) ≡ true) (e ∷ es)) [
        | true ↦ λ t h. (t, all_below x es h)
        | false ↦ λ t h. absurd h
      ] refl b

  rest_sorted : (e : K × X) (es : List (K × X)) → T (is_sorted R (e ∷ es)) → T (below_all R e.0 es) × T (is_sorted R es)
  rest_sorted e es s =
      elim (below_all R e.0 es) as (λ t. T (t && is_sorted R es) → T t × T (is_sorted R es)) [ true ↦ λ h. (tt, h) | false ↦ λ h. absurd h ] s

  found_in : (es : List (K × X)) → T (is_sorted R es) → AllByRecursion (λ e. find R e.0 es ≡ Some e.1) es
  found_in [] s = tt
  found_in (e ∷ es) s =
      let parts = rest_sorted e es s in
      let later = found_in es parts.1 in (
        ap (λ b. cond b (Some e.1) (find R e.0 es)) ((eq_by_cmp_equiv o).refl e.0),
        all_both (λ f. is_lt (R e.0 f.0) ≡ true) (λ f. find R f.0 es ≡ Some f.1) (λ f. find R f.0 (e ∷ es) ≡ Some f.1)
            (λ f b h. ap (λ t. cond t (Some e.1) (find R f.0 es)) ((eq_by_cmp_equiv o).symm f.0 e.0 ∙ not_tied _ b) ∙ h) es (all_below e.0 es parts.0) later,
      )

  -- a map has each of its entries
  pub entries_found : (m : FinMap R X) → AllByRecursion (λ e. get m e.0 ≡ Some e.1) (entries m)
  entries_found m =
      all_map (λ e. find R e.0 (entries m) ≡ Some e.1) (λ e. get m e.0 ≡ Some e.1) (λ e h. get-entries m e.0 ∙ h) (entries m) (found_in (entries m) (entries_sorted m))

greatest_few : (a : ℕ) (p : Full × FileRow → Bool) (es : List (Full × FileRow)) → a ≤ 4095 → AllByRecursion (λ e. e.0.generation ≤ 4095) es → fold max a (map (λ e. e.0.generation) (filter p es)) ≤ 4095
greatest_few a p [] few all = few
greatest_few a p (e ∷ es) few all =
    elim (p e) as (λ t. fold max a (map (λ e. e.0.generation) (cond t (e ∷ filter p es) (filter p es))) ≤ 4095) [
      | true ↦ let one = all.0 in greatest_few (max a e.0.generation) p es (omega arith) all.1
      | false ↦ greatest_few a p es few all.1
    ]

-- no generation is above 4,095
pub newest-few : (tree : Tree) (who : List ℕ) (path : Path) → IsTree tree → newest tree who path ≤ 4095
newest-few tree who path is =
    greatest_few 0 (λ e. is_version_of (named who path 0) e.0) (entries tree.files) (omega arith)
    (all_map (λ e. get tree.files e.0 ≡ Some e.1) (λ e. e.0.generation ≤ 4095) (λ e h. (is.files e.0 e.1 h).generation.1) (entries tree.files) (entries_found full_total tree.files))
