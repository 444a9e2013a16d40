-- Two lists byte by byte.
-- serves: is_same
use Rattle.std.proofs.Common.{◌≡◌, ◌↔◌, ⊎_elim, ℕ, ◌+◌, ◌<◌, ◌≤◌, Bool, IsTrue, List, length, get_or, ap, ◌∙◌, subst, arith}
use Rattle.std.proofs.lemmas.Bool.{cases_lt}
use Rattle.std.proofs.lemmas.List.{get_or_default, same_lists}

-- the first n bytes are the same
abbrev pub Agree : ℕ → List ℕ → List ℕ → Type 0
Agree n xs ys = (k : ℕ) → k < n → get_or xs k 0 ≡ get_or ys k 0

pub agree_more : (n : ℕ) (xs ys : List ℕ) (was now : Bool) → (IsTrue was ↔ Agree n xs ys) → (IsTrue now ↔ (IsTrue was × (get_or xs n 0 ≡ get_or ys n 0))) → IsTrue now ↔ Agree (n + 1) xs ys
agree_more n xs ys was now before still = (
  λ yes. let both = still.0 yes in λ k below. ⊎_elim
      (λ (less : k < n). before.0 both.0 k less)
      (λ (past : n ≤ k). let at : n ≡ k = omega arith in subst (λ (m : ℕ). get_or xs m 0 ≡ get_or ys m 0) at both.1)
      (cases_lt k n),
  λ agree. still.1 (before.1 (λ k less. agree k (omega (arith, less))), agree n (omega arith)),
)

pub agree_all : (n : ℕ) (xs ys : List ℕ) (same : Bool) → length xs ≡ length ys → length xs ≤ n → (IsTrue same ↔ Agree n xs ys) → IsTrue same ↔ (xs ≡ ys)
agree_all n xs ys same long whole is = (
  λ yes. same_lists xs ys long (λ i d within. get_or_default xs i d 0 within ∙ is.0 yes i (omega (arith, within, whole)) ∙ get_or_default ys i 0 d (omega (arith, within, long))),
  λ equal. is.1 (λ k below. ap (λ (l : List ℕ). get_or l k 0) equal),
)
