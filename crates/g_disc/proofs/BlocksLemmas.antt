-- Lists that are padded to a length.
-- serves: set
use Rattle.std.proofs.Common.{◌≡◌, ℕ, ◌+◌, ◌-◌, ◌<◌, ◌≤◌, List, ◌++◌, length, replicate, sym, ap, ◌∙◌, arith, length-append, length-set}
use Rattle.std.proofs.Math.ListN.{set}
use Rattle.std.proofs.lemmas.List.{append_assoc, length-replicate, replicate-append-replicate, set-append_left}

-- the list, padded with z to n elements
abbrev pub filled : {X : Type 0} → ℕ → X → List X → List X
filled n z xs = xs ++ replicate (n - length xs) z

pub filled-length : {X : Type 0} (n : ℕ) (z : X) (xs : List X) → length xs ≤ n → length (filled n z xs) ≡ n
filled-length n z xs few = omega (arith, few, length-append xs (replicate (n - length xs) z), length-replicate (n - length xs) z)

-- writing some of the padding changes nothing
filled-more : {X : Type 0} (n m : ℕ) (z : X) (xs : List X) → length xs + m ≤ n → filled n z (xs ++ replicate m z) ≡ filled n z xs
filled-more {X = X} n m z xs few =
    let long : length (xs ++ replicate m z) ≡ length xs + m = omega (arith, length-append xs (replicate m z), length-replicate m z) in
    let left : m + (n - length (xs ++ replicate m z)) ≡ n - length xs = omega (arith, few, long) in
    append_assoc xs (replicate m z) (replicate (n - length (xs ++ replicate m z)) z)
    ∙ ap (λ (ys : List X). xs ++ ys) (replicate-append-replicate m (n - length (xs ++ replicate m z)) z ∙ ap (λ (j : ℕ). replicate j z) left)

-- replacing an element of the list replaces it in the padded list
filled-set : {X : Type 0} (n i : ℕ) (z x : X) (xs : List X) → i < length xs → filled n z (set xs i x) ≡ set (filled n z xs) i x
filled-set n i z x xs within =
    ap (λ (l : ℕ). set xs i x ++ replicate (n - l) z) (length-set xs i x)
    ∙ sym (set-append_left xs (replicate (n - length xs) z) i x within)

-- the padding up to index i is written, and then the element at i is replaced
pub filled-set_reached : {X : Type 0} (n i : ℕ) (z x : X) (xs ys : List X) → ys ≡ xs ++ replicate (i + 1 - length xs) z → length xs ≤ n → i < n
    → filled n z (set ys i x) ≡ set (filled n z xs) i x
filled-set_reached {X = X} n i z x xs ys same few below =
    let long : length ys ≡ length xs + (i + 1 - length xs) =
    ap length same ∙ length-append xs (replicate (i + 1 - length xs) z) ∙ ap (λ (m : ℕ). length xs + m) (length-replicate (i + 1 - length xs) z) in
    filled-set n i z x ys (omega (arith, long))
    ∙ ap (λ (zs : List X). set zs i x) (ap (filled n z) same ∙ filled-more n (i + 1 - length xs) z xs (omega (arith, few, below)))
