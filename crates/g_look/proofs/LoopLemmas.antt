-- Loops over a list: a property of each element visited so far, and of all elements after the last step.
-- serves: compare_texts (none, some), other_length (none), NamedLemmas, ReadLemmas
use Rattle.std.proofs.Common.{◌≡◌, ℕ, zero, suc, ◌+◌, ◌<◌, ◌≤◌, ◌⊎◌, inl, inr, List, length, get_or, Option, Some, None, sym, ◌∙◌, ap, arith, subst}
use Rattle.std.specs.Prelude.{Contains, IfNone, IfSome}
use Rattle.std.proofs.lemmas.List.{get_or_default}

module _ {X : Type 0} (P : X → Type 0) (xs : List X) where
  pub one_further : (i : ℕ) (x : X) → i < length xs → x ≡ get_or xs i x → P x → ((k : ℕ) (d : X) → k < i → P (get_or xs k d)) → (k : ℕ) (d : X) → k < i + 1 → P (get_or xs k d)
  one_further i x within at is so k d below = by_place (le_cases k i (omega (arith, below)))
    where
      le_cases : (a b : ℕ) → a ≤ b → (a < b) ⊎ (a ≡ b)
      le_cases a zero le = inr (omega (arith, le))
      le_cases zero (suc b) le = inl (omega arith)
      le_cases (suc a) (suc b) le = later (le_cases a b (omega (arith, le)))
        where
          later : (a < b) ⊎ (a ≡ b) → (suc a < suc b) ⊎ (suc a ≡ suc b)
          later (inl less) = inl (omega (arith, less))
          later (inr same) = inr (ap suc same)

      by_place : (k < i) ⊎ (k ≡ i) → P (get_or xs k d)
      by_place (inl less) = so k d less
      by_place (inr same) = subst (λ (n : ℕ). P (get_or xs n d)) (sym same) (subst P (at ∙ sym (get_or_default xs i d x within)) is)

  pub all_seen : (n : ℕ) → length xs ≤ n → ((k : ℕ) (d : X) → k < n → P (get_or xs k d)) → (x : X) → Contains xs x → P x
  all_seen n le so x (k, within, at) = subst P at (so k x (omega (arith, within, le)))

-- CONSEQUENCES for an option
pub if_some : {X : Type 0} (P Q : X → Type 0) (o : Option X) → ((x : X) → P x → Q x) → IfSome o P → IfSome o Q
if_some P Q None change is = tt
if_some P Q (Some x) change is = change x is

pub if_none : {X : Type 0} (P Q : Type 0) (o : Option X) → (P → Q) → IfNone o P → IfNone o Q
if_none P Q None change is = change is
if_none P Q (Some x) change is = tt
