-- Files of zeros.
-- serves: is_blank (blank)
use Rattle.std.proofs.Common.{◌≡◌, ℕ, ◌+◌, ◌-◌, ◌≤◌, List, ◌++◌, length, take, drop, replicate, Ok, sym, ap, ◌∙◌, arith}
use Rattle.std.specs.Prelude.{Option}
use Rattle.std.specs.Option.{ForSome}
use Rattle.std.proofs.lemmas.List.{length-replicate, length-take-le, replicate-append-replicate, take_all}
use Rattle.std.proofs.Math.Seq.{take-add}
use Rattle.g_base.specs.ToldContent.{Changes}
use Rattle.g_base.proofs.ToldLemmas.{Changes-back}
use Rattle.g_files.specs.Bytes.{IsBlank, part}
use Rattle.g_files.specs.Calls.{HasCut}

-- so far zeros, and a piece more
pub blank_more : (at n : ℕ) (piece b : List ℕ) → n ≤ length piece → take at b ≡ replicate at 0 → take n piece ≡ part at n b
    → take n piece ≡ replicate (length (take n piece)) 0 → take (at + n) b ≡ replicate (at + n) 0
blank_more at n piece b few before given zeros =
    let long : length (take n piece) ≡ n = length-take-le n piece few in
    take-add at n b ∙ ap (λ (xs : List ℕ). xs ++ take n (drop at b)) before
    ∙ ap (λ (xs : List ℕ). replicate at 0 ++ xs) (sym given ∙ zeros ∙ ap (λ (k : ℕ). replicate k 0) long) ∙ replicate-append-replicate at n 0

-- zeros up to the end
pub blank_all : (at most : ℕ) (b : List ℕ) → take at b ≡ replicate at 0 → length b ≤ at → length b ≤ most → IsBlank most b
blank_all at most b zeros end few =
    let all : b ≡ replicate at 0 = sym (take_all at b end) ∙ zeros in
    let long : length b ≡ at = ap length all ∙ length-replicate {A = ℕ} at 0 in
    record { few = few; zeros = all ∙ ap (λ (n : ℕ). replicate n 0) (sym long) }

-- longer by zeros
pub blank_cut : (E : Type 0) (n : ℕ) (x y : Option (List ℕ)) → ForSome x (IsBlank n) → Changes (HasCut {E = E} n (Ok tt)) x y
    → ForSome y (λ b. b ≡ replicate n 0)
blank_cut E n x y blank c a is =
    let f = Changes-back (HasCut {E = E} n (Ok tt)) x y c a is in
    let was = blank f.0 f.1 in
    let rest = n - length f.0 in
    let all : f.0 ++ replicate rest 0 ≡ replicate n 0 =
    ap (λ (xs : List ℕ). xs ++ replicate rest 0) was.zeros ∙ replicate-append-replicate (length f.0) rest 0
    ∙ ap (λ (k : ℕ). replicate k 0) (omega (arith, was.few)) in
    f.2 ∙ ap (take n) all ∙ take_all n (replicate n 0) (omega (arith, length-replicate {A = ℕ} n 0))
