-- What remains of a list after its first places.
-- serves: PinPutLemmas, crates above
use Rattle.std.proofs.Common.{◌≡◌, ℕ, zero, suc, ◌+◌, ◌<◌, ◌≤◌, List, [], ◌∷◌, length, get_or, drop, ◌∙◌, ap, arith}

-- the item is the one at this place, followed by the others
pub record IsNext {X : Type 0} (xs : List X) (k : ℕ) (x : X) (rest : List X) : Type 0 where
  pub inside : k < length xs
  pub at : x ≡ get_or xs k x
  pub behind : rest ≡ drop (k + 1) xs

pub next_of : {X : Type 0} (xs : List X) (k : ℕ) (x : X) (rest : List X) → x ∷ rest ≡ drop k xs → IsNext xs k x rest
next_of [] zero x rest is = absurd (let none : ⊥ = cc in none)
next_of [] (suc k) x rest is = absurd (let none : ⊥ = cc in none)
next_of (y ∷ xs) zero x rest is = record { inside = omega arith; at = cc; behind = cc }
next_of (y ∷ xs) (suc k) x rest is =
    let more = next_of xs k x rest is in
    let inside = more.inside in
    let next : suc (k + 1) ≡ suc k + 1 = omega arith in
    record { inside = omega (arith, inside); at = more.at; behind = more.behind ∙ ap (λ (i : ℕ). drop i (y ∷ xs)) next }

pub none_behind : {X : Type 0} (xs : List X) (k : ℕ) → [] ≡ drop k xs → length xs ≤ k
none_behind [] k is = omega arith
none_behind (x ∷ xs) zero is = absurd (let none : ⊥ = cc in none)
none_behind (x ∷ xs) (suc k) is = let more = none_behind xs k is in omega (arith, more)
