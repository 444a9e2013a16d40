-- Blocks that are known to be absent: when one is used, cached or written.
-- serves: forget (absent, others), new, read
use Rattle.std.proofs.Common.{◌≡◌, ◌≢◌, ◌⊎◌, ◌∙◌, ℕ, zero, suc, ◌%◌, ◌==◌, Bool, true, false, cond, List, [], ◌∷◌, take, replicate, get_or, Option, Some, None, is_some, refl, sym, ap, subst, inl, inr, arith, nat_eq, true≢false}
use Rattle.std.proofs.lemmas.Bool.Decides.{nat_tests}
use Rattle.std.specs.Map.{remove_entry}
use Rattle.g_cache.specs.Absent.{AreAbsent, is_noted}
use Rattle.g_cache.specs.CachedDisc.{kept_block, without_block}

abbrev Kept : Type 0
Kept = List (ℕ × List ℕ)

nat_apart : (m n : ℕ) → m ≢ n → nat_eq m n ≡ false
nat_apart m n apart = grind (arith, nat_tests)

-- WHAT IS NOT FOUND

none_parts : (t : Bool) (x : List ℕ) (o : Option (List ℕ)) → cond t (Some x) o ≡ None → (t ≡ false) × (o ≡ None)
none_parts true x o e = absurd (true≢false (ap is_some e))
none_parts false x o e = (refl, e)

first_other : (j k : ℕ) (block : List ℕ) (kept : Kept) → nat_eq j k ≡ false → kept_block j kept ≡ None → kept_block j ((k, block) ∷ kept) ≡ None
first_other j k block kept apart none = ap (λ t. cond t (Some block) (kept_block j kept)) apart ∙ none

none_left : (test : ℕ → Bool) (j : ℕ) (kept : Kept) → kept_block j kept ≡ None → kept_block j (remove_entry test kept) ≡ None
none_left test j [] none = none
none_left test j (e ∷ kept) none =
    let parts = none_parts (nat_eq j e.0) e.1 (kept_block j kept) none in
    elim (test e.0) as (λ t. kept_block j (cond t kept (e ∷ remove_entry test kept)) ≡ None) [
      | true ↦ parts.1
      | false ↦ first_other j e.0 e.1 (remove_entry test kept) parts.0 (none_left test j kept parts.1)
    ]

none_taken : (n j : ℕ) (kept : Kept) → kept_block j kept ≡ None → kept_block j (take n kept) ≡ None
none_taken zero j kept none = refl
none_taken (suc n) j [] none = none
none_taken (suc n) j (e ∷ kept) none =
    let parts = none_parts (nat_eq j e.0) e.1 (kept_block j kept) none in
    first_other j e.0 e.1 (take n kept) parts.0 (none_taken n j kept parts.1)

-- removing a block that isn't cached changes nothing
pub missing_stays : (k : ℕ) (kept : Kept) → kept_block k kept ≡ None → kept ≡ without_block k kept
missing_stays k [] none = refl
missing_stays k (e ∷ kept) none =
    let parts = none_parts (nat_eq k e.0) e.1 (kept_block k kept) none in
    ap (λ (rest : Kept). e ∷ rest) (missing_stays k kept parts.1) ∙ ap (λ t. cond t kept (e ∷ without_block k kept)) (sym parts.0)

-- WHAT IS NOTED

-- a block that isn't noted differs from each noted one
pub others_noted : (k : ℕ) (numbers : List (Option ℕ)) → is_noted numbers k ≡ false → (j : ℕ) → is_noted numbers j ≡ true → (j ≢ k) × (is_noted numbers j ≡ true)
others_noted k numbers not_noted j noted = (λ same. true≢false (sym noted ∙ ap (λ (i : ℕ). is_noted numbers i) same ∙ not_noted), noted)

abbrev told : Option ℕ → ℕ → Bool
told o j = elim o [ Some i ↦ i == j | None ↦ false ]

none_at : (n p : ℕ) → get_or (replicate {A = Option ℕ} n None) p None ≡ None
none_at zero p = refl
none_at (suc n) zero = refl
none_at (suc n) (suc p) = none_at n p

pub none_noted : (n k : ℕ) → is_noted (replicate {A = Option ℕ} n None) k ≡ false
none_noted n k = ap (λ (o : Option ℕ). told o k) (none_at n (k % 67))

-- WHAT IS ABSENT

module _ (k : ℕ) (numbers : List (Option ℕ)) (kept after : Kept) (absent : AreAbsent numbers kept) where
  pub absent_forgotten : (noted : List (Option ℕ)) → ((j : ℕ) → is_noted noted j ≡ true → (j ≡ k) ⊎ (is_noted numbers j ≡ true)) → kept_block k after ≡ None → after ≡ without_block k kept → AreAbsent noted after
  absent_forgotten noted step gone others = λ j is. elim (step j is) [
    | inl same ↦ subst (λ (i : ℕ). kept_block i after ≡ None) (sym same) gone
    | inr was ↦ ap (kept_block j) others ∙ none_left (nat_eq k) j kept (absent j was)
  ]

  -- a cached block is used
  pub absent_found : (block into : List ℕ) → kept_block k kept ≡ Some block → after ≡ (k, into) ∷ without_block k kept → AreAbsent numbers after
  absent_found block into found first = λ j is.
      let none = absent j is in
      let other : j ≢ k = λ same. true≢false (ap is_some (sym found ∙ ap (λ (i : ℕ). kept_block i kept) (sym same) ∙ none)) in
      ap (kept_block j) first ∙ first_other j k into (without_block k kept) (nat_apart j k other) (none_left (nat_eq k) j kept none)

  -- a block is cached, or isn't
  pub absent_kept : (noted : List (Option ℕ)) (block : List ℕ) → ((j : ℕ) → is_noted noted j ≡ true → (j ≢ k) × (is_noted numbers j ≡ true)) → (after ≡ (k, block) ∷ take 63 kept) ⊎ (after ≡ kept) → AreAbsent noted after
  absent_kept noted block step either = λ j is.
      let was = step j is in
      elim either [
        | inl first ↦ ap (kept_block j) first ∙ first_other j k block (take 63 kept) (nat_apart j k was.0) (none_taken 63 j kept (absent j was.1))
        | inr same ↦ ap (kept_block j) same ∙ absent j was.1
      ]
