-- Bytes from space to tilde, one by one.
-- serves: are_printed
use Rattle.std.proofs.Common.{All, Bool, IsTrue, List, arith, get_or, length, subst, ⊎_elim, ℕ, ◌+◌, ◌<◌, ◌↔◌, ◌≡◌, ◌≤◌}
use Rattle.std.proofs.lemmas.Bool.{cases_lt}
use Rattle.std.proofs.lemmas.List.Elements.{All-from_get_or, All-get_or}

abbrev pub IsPlain : ℕ → Type 0
IsPlain byte = (32 ≤ byte) × (byte ≤ 126)

-- the first n bytes are such
abbrev pub ArePlain : ℕ → List ℕ → Type 0
ArePlain n text = (k : ℕ) → k < n → IsPlain (get_or text k 0)

pub plain_more : (n : ℕ) (text : List ℕ) (was now : Bool) → (IsTrue was ↔ ArePlain n text)
    → (IsTrue now ↔ (IsTrue was × ((32 ≤ get_or text n 0) × (get_or text n 0 ≤ 126)))) → IsTrue now ↔ ArePlain (n + 1) text
plain_more n text was now before still = (
  λ yes. let both = still.0 yes in λ k below. ⊎_elim
      (λ (less : k < n). before.0 both.0 k less)
      (λ (past : n ≤ k). let at : n ≡ k = omega arith in subst (λ (m : ℕ). IsPlain (get_or text m 0)) at both.1)
      (cases_lt k n),
  λ are. still.1 (before.1 (λ k less. are k (omega (arith, less))), are n (omega arith)),
)

pub plain_all : (n : ℕ) (text : List ℕ) (printed : Bool) → length text ≤ n → n ≤ length text → (IsTrue printed ↔ ArePlain n text)
    → IsTrue printed ↔ All (λ byte. (32 ≤ byte) × (byte ≤ 126)) text
plain_all n text printed whole within is = (
  λ yes. All-from_get_or IsPlain text 0 (λ k below. is.0 yes k (omega (arith, below, whole))),
  λ all. is.1 (λ k below. All-get_or IsPlain text k 0 (omega (arith, below, within)) all),
)
